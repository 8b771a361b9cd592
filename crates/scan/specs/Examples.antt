-- The vectors of the rules, each by computing: good tiles, faults with their places, tiles that only end too early.
use Rattle.std.specs.Prelude.{◌≡◌, refl, [], ◌∷◌}
use Rattle.messages.specs.Keys.{follows}
use Rattle.scan.specs.Alive.{roomy}
use Rattle.messages.specs.Tiles.{good, fault}
use Rattle.scan.specs.Verdicts.{check}

good_1 : check ([]) ≡ good
unfolding check follows roomy
good_1 = refl

good_2 : check (26 ∷ 0 ∷ []) ≡ good
unfolding check follows roomy
good_2 = refl

good_3 : check (248 ∷ 255 ∷ 255 ∷ 255 ∷ 15 ∷ 0 ∷ []) ≡ good
unfolding check follows roomy
good_3 = refl

good_4 : check (136 ∷ 128 ∷ 128 ∷ 128 ∷ 128 ∷ 128 ∷ 128 ∷ 128 ∷ 128 ∷ 0 ∷ 0 ∷ []) ≡ good
unfolding check follows roomy
good_4 = refl

good_5 : check (8 ∷ 255 ∷ 255 ∷ 255 ∷ 255 ∷ 255 ∷ 255 ∷ 255 ∷ 255 ∷ 255 ∷ 1 ∷ []) ≡ good
unfolding check follows roomy
good_5 = refl

good_6 : check (26 ∷ 3 ∷ 40 ∷ 128 ∷ 0 ∷ []) ≡ good
unfolding check follows roomy
good_6 = refl

good_7 : check (26 ∷ 3 ∷ 10 ∷ 128 ∷ 0 ∷ []) ≡ good
unfolding check follows roomy
good_7 = refl

good_8 : check (26 ∷ 8 ∷ 34 ∷ 6 ∷ 149 ∷ 0 ∷ 0 ∷ 0 ∷ 0 ∷ 0 ∷ []) ≡ good
unfolding check follows roomy
good_8 = refl

good_9 : check (26 ∷ 6 ∷ 18 ∷ 4 ∷ 34 ∷ 2 ∷ 128 ∷ 0 ∷ []) ≡ good
unfolding check follows roomy
good_9 = refl

good_10 : check (26 ∷ 6 ∷ 18 ∷ 4 ∷ 34 ∷ 0 ∷ 34 ∷ 0 ∷ []) ≡ good
unfolding check follows roomy
good_10 = refl

fault_1 : check (27 ∷ []) ≡ fault 0
unfolding check follows roomy
fault_1 = refl

fault_2 : check (155 ∷ 128 ∷ []) ≡ fault 0
unfolding check follows roomy
fault_2 = refl

fault_3 : check (0 ∷ 0 ∷ []) ≡ fault 0
unfolding check follows roomy
fault_3 = refl

fault_4 : check (128 ∷ 0 ∷ []) ≡ fault 1
unfolding check follows roomy
fault_4 = refl

fault_5 : check (128 ∷ 128 ∷ 128 ∷ 128 ∷ 0 ∷ []) ≡ fault 4
unfolding check follows roomy
fault_5 = refl

fault_6 : check (128 ∷ 128 ∷ 128 ∷ 128 ∷ 128 ∷ []) ≡ fault 4
unfolding check follows roomy
fault_6 = refl

fault_7 : check (136 ∷ 128 ∷ 128 ∷ 128 ∷ 16 ∷ []) ≡ fault 4
unfolding check follows roomy
fault_7 = refl

fault_8 : check (136 ∷ 128 ∷ 128 ∷ 128 ∷ 128 ∷ 1 ∷ []) ≡ fault 5
unfolding check follows roomy
fault_8 = refl

fault_9 : check (136 ∷ 128 ∷ 128 ∷ 128 ∷ 128 ∷ 128 ∷ 128 ∷ 128 ∷ 128 ∷ 1 ∷ []) ≡ fault 9
unfolding check follows roomy
fault_9 = refl

fault_10 : check (24 ∷ []) ≡ fault 0
unfolding check follows roomy
fault_10 = refl

fault_11 : check (152 ∷ 0 ∷ []) ≡ fault 1
unfolding check follows roomy
fault_11 = refl

fault_12 : check (152 ∷ 128 ∷ 128 ∷ 128 ∷ 128 ∷ []) ≡ fault 4
unfolding check follows roomy
fault_12 = refl

fault_13 : check (26 ∷ 4 ∷ 42 ∷ []) ≡ fault 2
unfolding check follows roomy
fault_13 = refl

fault_14 : check (8 ∷ 128 ∷ 128 ∷ 128 ∷ 128 ∷ 128 ∷ 128 ∷ 128 ∷ 128 ∷ 128 ∷ 2 ∷ []) ≡ fault 10
unfolding check follows roomy
fault_14 = refl

fault_15 : check (26 ∷ 1 ∷ []) ≡ fault 1
unfolding check follows roomy
fault_15 = refl

fault_16 : check (26 ∷ 3 ∷ 40 ∷ 0 ∷ []) ≡ fault 3
unfolding check follows roomy
fault_16 = refl

fault_17 : check (26 ∷ 2 ∷ 40 ∷ 128 ∷ []) ≡ fault 3
unfolding check follows roomy
fault_17 = refl

fault_18 : check (26 ∷ 2 ∷ 10 ∷ 1 ∷ []) ≡ fault 3
unfolding check follows roomy
fault_18 = refl

fault_19 : check (26 ∷ 3 ∷ 10 ∷ 0 ∷ []) ≡ fault 3
unfolding check follows roomy
fault_19 = refl

fault_20 : check (26 ∷ 3 ∷ 10 ∷ 129 ∷ []) ≡ fault 3
unfolding check follows roomy
fault_20 = refl

fault_21 : check (26 ∷ 5 ∷ 18 ∷ 129 ∷ []) ≡ fault 3
unfolding check follows roomy
fault_21 = refl

fault_22 : check (26 ∷ 10 ∷ 10 ∷ 255 ∷ []) ≡ fault 3
unfolding check follows roomy
fault_22 = refl

fault_23 : check (26 ∷ 8 ∷ 34 ∷ 6 ∷ 21 ∷ []) ≡ fault 4
unfolding check follows roomy
fault_23 = refl

fault_24 : check (26 ∷ 12 ∷ 34 ∷ 10 ∷ 25 ∷ []) ≡ fault 4
unfolding check follows roomy
fault_24 = refl

fault_25 : check (26 ∷ 7 ∷ 34 ∷ 5 ∷ 153 ∷ []) ≡ fault 4
unfolding check follows roomy
fault_25 = refl

fault_26 : check (26 ∷ 12 ∷ 40 ∷ 128 ∷ 128 ∷ 128 ∷ 128 ∷ 128 ∷ 128 ∷ 128 ∷ 128 ∷ 128 ∷ []) ≡ fault 11
unfolding check follows roomy
fault_26 = refl

fault_27 : check (26 ∷ 6 ∷ 18 ∷ 4 ∷ 34 ∷ 2 ∷ 128 ∷ 128 ∷ []) ≡ fault 7
unfolding check follows roomy
fault_27 = refl

fault_28 : check (26 ∷ 6 ∷ 18 ∷ 4 ∷ 34 ∷ 1 ∷ []) ≡ fault 5
unfolding check follows roomy
fault_28 = refl

fault_29 : check (26 ∷ 5 ∷ 18 ∷ 2 ∷ []) ≡ fault 3
unfolding check follows roomy
fault_29 = refl

fault_30 : check (26 ∷ 12 ∷ 10 ∷ 128 ∷ 128 ∷ 128 ∷ 128 ∷ 128 ∷ 128 ∷ 128 ∷ 128 ∷ 128 ∷ []) ≡ fault 11
unfolding check follows roomy
fault_30 = refl

fault_31 : check (26 ∷ 19 ∷ 129 ∷ 129 ∷ 128 ∷ 128 ∷ 128 ∷ 128 ∷ 128 ∷ 128 ∷ 128 ∷ []) ≡ fault 10
unfolding check follows roomy
fault_31 = refl

fault_32 : check (26 ∷ 15 ∷ 133 ∷ 129 ∷ 128 ∷ 128 ∷ 128 ∷ 128 ∷ 128 ∷ 128 ∷ 128 ∷ []) ≡ fault 10
unfolding check follows roomy
fault_32 = refl

early_1 : check (26 ∷ []) ≡ fault 1
unfolding check follows roomy
early_1 = refl

early_2 : check (152 ∷ []) ≡ fault 1
unfolding check follows roomy
early_2 = refl

early_3 : check (26 ∷ 8 ∷ []) ≡ fault 2
unfolding check follows roomy
early_3 = refl

early_4 : check (10 ∷ 255 ∷ []) ≡ fault 2
unfolding check follows roomy
early_4 = refl

early_5 : check (26 ∷ 4 ∷ 10 ∷ 129 ∷ []) ≡ fault 4
unfolding check follows roomy
early_5 = refl

early_6 : check (26 ∷ 10 ∷ 10 ∷ 134 ∷ []) ≡ fault 4
unfolding check follows roomy
early_6 = refl

early_7 : check (26 ∷ 129 ∷ 128 ∷ 128 ∷ 128 ∷ 128 ∷ 128 ∷ 128 ∷ 128 ∷ 128 ∷ []) ≡ fault 10
unfolding check follows roomy
early_7 = refl

early_8 : check (26 ∷ 11 ∷ 40 ∷ 128 ∷ 128 ∷ 128 ∷ 128 ∷ 128 ∷ 128 ∷ 128 ∷ 128 ∷ 128 ∷ []) ≡ fault 12
unfolding check follows roomy
early_8 = refl

early_9 : check (26 ∷ 6 ∷ 18 ∷ 2 ∷ []) ≡ fault 4
unfolding check follows roomy
early_9 = refl

early_10 : check (26 ∷ 18 ∷ 129 ∷ 129 ∷ 128 ∷ 128 ∷ 128 ∷ 128 ∷ 128 ∷ 128 ∷ 128 ∷ []) ≡ fault 11
unfolding check follows roomy
early_10 = refl
