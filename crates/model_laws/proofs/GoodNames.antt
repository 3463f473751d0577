-- Names that worked products have.
use Rattle.std.proofs.Common.{refl, lit<, lit≤, [], ◌∷◌}
use Rattle.std.specs.Prelude.{codes, All}
use Rattle.std.proofs.lemmas.List.Sums.{AllPass-from_list_all}
use Rattle.std.proofs.lemmas.List.Elements.{All-nil, All-cons}
use Rattle.model_specs.specs.Names.{IsGoodName, is_name_byte}

pub on_is_good : IsGoodName 24 (codes "on")
on_is_good = record {
  not_empty = lit< tt;
  short = lit≤ tt;
  bytes = AllPass-from_list_all is_name_byte (codes "on") refl;
}

pub name_is_good : IsGoodName 40 (codes "endowment")
name_is_good = record {
  not_empty = lit< tt;
  short = lit≤ tt;
  bytes = AllPass-from_list_all is_name_byte (codes "endowment") refl;
}

pub off_is_good : IsGoodName 24 (codes "off")
off_is_good = record {
  not_empty = lit< tt;
  short = lit≤ tt;
  bytes = AllPass-from_list_all is_name_byte (codes "off") refl;
}

pub states_are_good : All (IsGoodName 24) (codes "on" ∷ codes "off" ∷ [])
states_are_good =
    All-cons (IsGoodName 24) (codes "on") (codes "off" ∷ []) on_is_good
    (All-cons (IsGoodName 24) (codes "off") [] off_is_good (All-nil (IsGoodName 24)))
