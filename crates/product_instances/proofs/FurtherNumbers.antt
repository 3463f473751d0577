-- The numbers on the way of the product's runs, in lowest terms: with the lumps of a month's end, in its middle and at
-- its start; and the probabilities at dates and halfway.
use Rattle.std.specs.Prelude.{pos, [], ◌∷◌}
use Rattle.frac_laws.specs.Fraction.{over, whole}
use Rattle.frac_laws.specs.Lists.{Vector}

-- the reserves of months 2, 1 and 0
abbrev pub start_2 : Vector
start_2 =
    whole (pos 0) ∷ whole (pos 100) ∷ whole (pos 0) ∷ []

abbrev pub middle_2 : Vector
middle_2 =
    whole (pos 0) ∷ over (pos 1301393) 12800 ∷ over (pos 959) 640 ∷ []

abbrev pub end_2 : Vector
end_2 =
    whole (pos 0) ∷ over (pos 2438141143873) 23592960000 ∷ over (pos 1175966717) 393216000 ∷ []

abbrev pub start_1 : Vector
start_1 =
    whole (pos 70) ∷ over (pos 1258493143873) 23592960000 ∷ over (pos 1175966717) 393216000 ∷ []

abbrev pub middle_1 : Vector
middle_1 =
    over (pos 3218887) 46080 ∷ over (pos 202033436992822819) 3623878656000000
    ∷ over (pos 812265494791997) 181193932800000 ∷ []

abbrev pub end_1 : Vector
end_1 =
    over (pos 1480176216967) 21233664000 ∷ over (pos 3604797179266430695193) 61847529062400000000
    ∷ over (pos 498623764110390692477) 83494164234240000000 ∷ []

abbrev pub start_0 : Vector
start_0 =
    over (pos 1480176216967) 21233664000 ∷ over (pos 3604797179266430695193) 61847529062400000000
    ∷ over (pos 3838390333479990692477) 83494164234240000000 ∷ []

abbrev pub middle_0 : Vector
middle_0 =
    over (pos 680645711786322247) 9784472371200000
    ∷ over (pos 1089581244039617044500035647) 17099604835172352000000000
    ∷ over (pos 1822700299858230435219316157) 38474110879137792000000000 ∷ []

abbrev pub end_0 : Vector
end_0 =
    over (pos 312988804753534208382727) 4508684868648960000000
    ∷ over (pos 6540562241245970604680679588784973) 94553974896569037619200000000000
    ∷ over (pos 864717932666935604181845560951037) 17728870293106694553600000000000 ∷ []

-- the second moments of months 2 and 1
abbrev pub second_start_2 : Vector
second_start_2 =
    whole (pos 0) ∷ whole (pos 10000) ∷ whole (pos 0) ∷ []

abbrev pub second_middle_2 : Vector
second_middle_2 =
    whole (pos 0) ∷ over (pos 238987267) 23040 ∷ over (pos 9) 4 ∷ []

abbrev pub second_end_2 : Vector
second_end_2 =
    whole (pos 0) ∷ over (pos 114074180912803) 10616832000 ∷ over (pos 3669147) 409600 ∷ []

abbrev pub second_start_1 : Vector
second_start_1 =
    whole (pos 4900) ∷ over (pos 15449954719259) 5308416000 ∷ over (pos 3669147) 409600 ∷ []

abbrev pub second_middle_1 : Vector
second_middle_1 =
    over (pos 5621329) 1152 ∷ over (pos 7775104317628251863) 2446118092800000 ∷ over (pos 843663634267) 41943040000
    ∷ []

abbrev pub second_end_1 : Vector
second_end_1 =
    over (pos 644884484209) 132710400 ∷ over (pos 7856008836771647131480507) 2254342434324480000000
    ∷ over (pos 229914326619208357) 6442450944000000 ∷ []

-- the probabilities
abbrev pub chance_0 : Vector
chance_0 =
    whole (pos 0) ∷ whole (pos 1) ∷ whole (pos 0) ∷ []

abbrev pub halfway_0 : Vector
halfway_0 =
    over (pos 167) 46080 ∷ over (pos 91253) 92160 ∷ over (pos 191) 30720 ∷ []

abbrev pub chance_1 : Vector
chance_1 =
    over (pos 350393123) 56623104000 ∷ over (pos 55571890711) 56623104000 ∷ over (pos 116803361) 9437184000 ∷ []

abbrev pub halfway_1 : Vector
halfway_1 =
    over (pos 100680884304449) 13045963161600000 ∷ over (pos 6375262874256631) 6522981580800000
    ∷ over (pos 194756528782289) 13045963161600000 ∷ []

abbrev pub chance_2 : Vector
chance_2 =
    over (pos 24720563570692384409) 3005789912432640000000 ∷ over (pos 731376532197594964951) 751447478108160000000
    ∷ over (pos 18521073357189251929) 1001929970810880000000 ∷ []
