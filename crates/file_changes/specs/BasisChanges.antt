-- Changes of a product's basis: of its denominator, its force of interest and its intensities. This product's own.
use Rattle.std.specs.Prelude.{ℕ, ◌*◌, ◌^◌, ℤ, pos, ◌+ℤ◌, ◌*ℤ◌, bytes_eq, ◌&&◌, if◌then◌else◌, slice_index_or}
use Rattle.std.specs.Prelude.{List, [], ◌∷◌, map, Bool}
use Rattle.model_specs.specs.Curve.{Piece}
use Rattle.model_specs.specs.Product.{Product, Transition}

-- each coefficient times a factor, and the first one more by a number
abbrev pub changed_coefficients : (factor more : ℤ) → List ℤ → List ℤ
changed_coefficients factor more [] = []
changed_coefficients factor more (c ∷ cs) = (factor *ℤ c +ℤ more) ∷ map (λ x. factor *ℤ x) cs

-- a piece with such coefficients
abbrev pub changed_piece : (factor more : ℤ) → Piece → Piece
changed_piece factor more piece =
    record { from = piece.from; c = changed_coefficients factor more piece.c }

-- the pieces of a curve with such coefficients
abbrev pub changed_pieces : (factor more : ℤ) → List Piece → List Piece
changed_pieces factor more pieces = map (changed_piece factor more) pieces

-- a product over another denominator, with another force of interest and other intensities
abbrev pub with_basis : (den : ℕ) → (interest : List Piece) → (rate : Transition → List Piece) → Product → Product
with_basis den interest rate product = record {
  name = product.name;
  states = product.states;
  start = product.start;
  months = product.months;
  den = den;
  interest = interest;
  transitions = map (λ t. record { from = t.from; to = t.to; rate = rate t; sum = t.sum }) product.transitions;
  sojourns = product.sojourns;
  lumps = product.lumps;
  pattern = product.pattern;
}

-- the denominator of a product, times a power of ten
abbrev pub finer : (places : ℕ) → Product → ℕ
finer places product = product.den * 10 ^ places

-- a transition leads from the state with one name to the state with another
abbrev pub leads : Product → (from to : List ℕ) → Transition → Bool
leads product from to t =
    bytes_eq (slice_index_or product.states t.from []) from && bytes_eq (slice_index_or product.states t.to []) to

-- an intensity, times one factor between the two named states, and times another elsewhere
abbrev pub changed_rate : Product → (from to : List ℕ) → (factor others : ℤ) → Transition → List Piece
changed_rate product from to factor others t =
    changed_pieces (if leads product from to t then factor else others) (pos 0) t.rate

-- a product over a finer denominator: the first coefficients of the force of interest grow by a number, and the
-- intensity between the two named states has a factor of its own
abbrev pub with_finer_basis : (places : ℕ) → (more : ℤ) → (from to : List ℕ) → (factor : ℤ) → Product → Product
with_finer_basis places more from to factor product = with_basis (finer places product)
    (changed_pieces (pos (10 ^ places)) more product.interest)
    (changed_rate product from to factor (pos (10 ^ places))) product

-- units / 10^places a year is added to the force of interest
abbrev pub shifted : (units : ℤ) → (places : ℕ) → Product → Product
shifted units places product = with_basis (finer places product)
    (changed_pieces (pos (10 ^ places)) (units *ℤ pos product.den) product.interest)
    (λ t. changed_pieces (pos (10 ^ places)) (pos 0) t.rate) product

-- the intensity of the transition from one state to another is taken units / 10^places times
abbrev pub multiplied : (from to : List ℕ) → (units : ℤ) → (places : ℕ) → Product → Product
multiplied from to units places product = with_finer_basis places (pos 0) from to units product
