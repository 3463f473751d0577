-- The tree of a sheet has no float, and is not deep.
use Rattle.std.proofs.Common.{◌≡◌, ℕ, suc, ◌≤◌, List, [], ◌∷◌, map, refl, arith, false, Ordering}
use Rattle.std.proofs.Common.{Less, Equal, Greater, Option, Some, None, codes, string_bytes}
use Rattle.std.specs.Prelude.{⊤}
use Rattle.std.specs.Ordering.{match_ordering}
use Rattle.io_ports.specs.Given.{evidence_of}
use Rattle.serde_json.specs.Data.{Data, Members, member, no_members, put, depth, members_depth, items_depth, array}
use Rattle.serde_json.specs.Data.{object, string, number, unsigned}
use Rattle.serde_json.specs.View.{items_of}
use Rattle.serde_json.specs.Written.{has_float, items_have_float, members_have_float}
use Rattle.row_sheets.specs.declared.about.About.{About}
use Rattle.row_sheets.specs.Sheets.{Cell, whole, text, Contents}
use Rattle.row_sheets.specs.JsonText.{cell_tree, file_tree, json_tree, row_tree, told_always, with_cells, with_number}

-- data without floats, at most so deep
record IsFlat (n : ℕ) (d : Data) : Type 0 where
  low : depth d ≤ n
  plain : has_float d ≡ false

abbrev AreFlat : ℕ → Members → Type 0
AreFlat n no_members = ⊤
AreFlat n (member key d told) = IsFlat n d × AreFlat n told

flat_object : (n : ℕ) (told : Members) → AreFlat n told → (members_depth told ≤ n) × (members_have_float told ≡ false)
flat_object n no_members flat = (omega arith, refl)
flat_object n (member key d told) flat =
    let rest = flat_object n told flat.1 in
    (omega (arith, flat.0.low, rest.0), rw (flat.0.plain, rest.1) refl)

flat_in_object : (n : ℕ) (told : Members) → AreFlat n told → IsFlat (suc n) (object told)
flat_in_object n told flat =
    let all = flat_object n told flat in
    record { low = omega (arith, all.0); plain = all.1 }

one_of_three : (order : Ordering) (a b c : Members) (n : ℕ) → AreFlat n a → AreFlat n b → AreFlat n c
    → AreFlat n (match_ordering order a b c)
one_of_three Less a b c n fa fb fc = fa
one_of_three Equal a b c n fa fb fc = fb
one_of_three Greater a b c n fa fb fc = fc

put_flat : (n : ℕ) (key : List ℕ) (d : Data) (told : Members) → IsFlat n d → AreFlat n told → AreFlat n (put key d told)
put_flat n key d no_members own flat = (own, tt)
put_flat n key d (member other e told) own flat =
    one_of_three _ (member key d (member other e told)) (member other d told) (member other e (put key d told)) n
    (own, flat) (own, flat.1) (flat.0, put_flat n key d told own flat.1)

flat_items : {X : Type 0} (n : ℕ) (f : X → Data) (xs : List X) → ((x : X) → IsFlat n (f x))
    → (items_depth (items_of (map f xs)) ≤ n) × (items_have_float (items_of (map f xs)) ≡ false)
flat_items n f [] each = (omega arith, refl)
flat_items n f (x ∷ xs) each =
    let rest = flat_items n f xs each in
    let own = each x in
    (omega (arith, own.low, rest.0), rw (own.plain, rest.1) refl)

flat_in_array : {X : Type 0} (n : ℕ) (f : X → Data) (xs : List X) → ((x : X) → IsFlat n (f x))
    → IsFlat (suc n) (array (items_of (map f xs)))
flat_in_array n f xs each =
    let all = flat_items n f xs each in
    record { low = omega (arith, all.0); plain = all.1 }

cell_flat : (cell : Cell) → IsFlat 0 (cell_tree cell)
cell_flat (whole n) = record { low = omega arith; plain = refl }
cell_flat (text words) = record { low = omega arith; plain = refl }

cells_flat : (told : Members) (names : List (List ℕ)) (cells : List Cell) → AreFlat 0 told
    → AreFlat 0 (with_cells told names cells)
cells_flat told [] cells flat = flat
cells_flat told (name ∷ names) [] flat = flat
cells_flat told (name ∷ names) (cell ∷ cells) flat =
    cells_flat (put name (cell_tree cell) told) names cells
    (put_flat 0 name (cell_tree cell) told (cell_flat cell) flat)

higher : (m n : ℕ) (d : Data) → m ≤ n → IsFlat m d → IsFlat n d
higher m n d more flat = record { low = omega (arith, more, flat.low); plain = flat.plain }

number_flat : (n : ℕ) (name : List ℕ) (known : Option ℕ) (told : Members) → AreFlat n told
    → AreFlat n (with_number name known told)
number_flat n name None told flat = flat
number_flat n name (Some m) told flat =
    put_flat n name (number (unsigned m)) told (record { low = omega arith; plain = refl }) flat

always_flat : (about : About) (sheet : Contents) → AreFlat 2 (told_always about sheet)
always_flat about sheet =
    let row_flat = λ (row : List Cell). flat_in_object 0 (with_cells no_members sheet.head row)
    (cells_flat no_members sheet.head row tt) in
    let word_flat : (word : List ℕ) → IsFlat 0 (string word) = λ word. record { low = omega arith; plain = refl } in
    let words_flat = higher 1 2 _ (omega arith) (flat_in_array 0 string (map string_bytes about.words.now) word_flat) in
    let files = evidence_of about.files.now in
    let files_flat = flat_in_array 1 file_tree files (λ file. record { low = omega arith; plain = refl }) in
    let rows_flat = flat_in_array 1 (row_tree sheet.head) sheet.rows row_flat in
    let tool_flat : IsFlat 2 (string (codes "thiele_cli 1.0")) = record { low = omega arith; plain = refl } in
    (words_flat, (files_flat, (rows_flat, (tool_flat, tt))))

tree_flat : (about : About) (sheet : Contents) → IsFlat 3 (json_tree about sheet)
tree_flat about sheet =
    let with_degree = number_flat 2 (codes "degree") about.degree (told_always about sheet) (always_flat about sheet) in
    flat_in_object 2 _ (number_flat 2 (codes "scale") about.scale
    (with_number (codes "degree") about.degree (told_always about sheet)) with_degree)

-- the tree of a sheet has no float, and is at most three levels deep
pub tree_is_plain : (about : About) (sheet : Contents) → has_float (json_tree about sheet) ≡ false
tree_is_plain about sheet = (tree_flat about sheet).plain

pub tree_is_low : (about : About) (sheet : Contents) → depth (json_tree about sheet) ≤ 3
tree_is_low about sheet = (tree_flat about sheet).low
