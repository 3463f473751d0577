-- The greatest size of one lump more.
use Rattle.std.proofs.Common.{◌≡◌, ℕ, ℤ, ◌+◌, ◌<◌, List, [], ◌∷◌, arith, ap, ◌∙◌, get_or, max, take, length}
use Rattle.std.specs.Prelude.{map, unsigned_abs}
use Rattle.std.proofs.lemmas.List.{take_more, map-append}
use Rattle.whole_laws.specs.Whole.{greatest_natural}
use Rattle.rate_bounds.proofs.LeastAndGreatest.{greatest_natural-push}

-- the size of a lump
abbrev pub lump_size : ℕ × ℤ → ℕ
lump_size l = unsigned_abs l.1

pub greatest_of_more : (lumps : List (ℕ × ℤ)) (i : ℕ) (d : ℕ × ℤ) (most x next : ℕ) → i < length lumps
    → most ≡ greatest_natural (map lump_size (take i lumps)) → x ≡ unsigned_abs (get_or lumps i d).1
    → next ≡ max x most → next ≡ greatest_natural (map lump_size (take (i + 1) lumps))
greatest_of_more lumps i d most x next inside sofar here is =
    let more : greatest_natural (map lump_size (take (i + 1) lumps))
    ≡ max (greatest_natural (map lump_size (take i lumps))) (lump_size (get_or lumps i d)) =
    ap (λ xs. greatest_natural (map lump_size xs)) (take_more lumps i d inside)
    ∙ ap greatest_natural (map-append lump_size (take i lumps) (get_or lumps i d ∷ []))
    ∙ greatest_natural-push (map lump_size (take i lumps)) (lump_size (get_or lumps i d)) in
    omega (arith, more)
