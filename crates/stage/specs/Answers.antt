-- The number and the values of each answer (REFERENCE 3). Two answers with the same number and the same values are the same (proofs/Apart.antt).
use Rattle.std.specs.Prelude.{ℕ, List, [], ◌∷◌}
use Rattle.stage.specs.declared.Answer.{Answer}
use Rattle.stage.specs.declared.Answer.TheVariants.{Done, Told, AllOutside, FirstInside, BadLoad, BadCull, NotLoaded, NoCode, BadModify, NeverLoaded, ShortData, ShortArea, NoRoom, BadState}

-- 0 is done
abbrev pub number : Answer → ℕ
number Done = 0
number (Told n) = 0
number (AllOutside plane) = 0
number (FirstInside left right bottom top) = 0
number (BadLoad count first) = 1
number (BadCull first last) = 2
number (NotLoaded slot) = 3
number (NoCode slot) = 4
number (BadModify slot attribute) = 5
number (NeverLoaded slot) = 6
number (ShortData length) = 7
number (ShortArea table) = 8
number (NoRoom table) = 9
number BadState = 10

-- what is returned with the number
abbrev pub values : Answer → List ℕ
values Done = []
values (Told n) = n ∷ []
values (AllOutside plane) = 1 ∷ plane ∷ []
values (FirstInside left right bottom top) = 0 ∷ left ∷ right ∷ bottom ∷ top ∷ []
values (BadLoad count first) = count ∷ first ∷ []
values (BadCull first last) = first ∷ last ∷ []
values (NotLoaded slot) = slot ∷ []
values (NoCode slot) = slot ∷ []
values (BadModify slot attribute) = slot ∷ attribute ∷ []
values (NeverLoaded slot) = slot ∷ []
values (ShortData length) = length ∷ []
values (ShortArea table) = table ∷ []
values (NoRoom table) = table ∷ []
values BadState = []
