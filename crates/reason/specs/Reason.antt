-- The cull test on clip codes, and the reason for its answer (REFERENCE 13). Definitions only.
use Rattle.std.specs.Prelude.{ℕ, zero, suc, ◌+◌, ◌-◌, Bool, true, not, ◌&&◌, List, [], ◌∷◌, map, get_or, eqb}
use Rattle.std.specs.Int.Bits.{bit_and}
use Rattle.numbers.specs.Choice.{pick}
use Rattle.decide.specs.Family.{flag}
use Rattle.reason.specs.declared.Reason.{Reason}
use Rattle.reason.specs.declared.Reason.TheVariants.{AllOutside, FirstInside}

-- ---- the cull test

-- n slots in order, from slot i on
abbrev pub slots_from : ℕ → ℕ → List ℕ
slots_from i zero = []
slots_from i (suc n) = i ∷ slots_from (i + 1) n

-- the slots first to last
abbrev pub slots_to : ℕ → ℕ → List ℕ
slots_to first last = slots_from first (last + 1 - first)

-- the clip codes of some slots
abbrev pub codes_at : List ℕ → List ℕ → List ℕ
codes_at code is = map (λ (i : ℕ). get_or code i 0) is

-- the AND of some codes with m
abbrev pub anded : ℕ → List ℕ → ℕ
anded m [] = m
anded m (c ∷ cs) = anded (bit_and m c) cs

-- the AND of all codes with 0x0f is not 0: all lie outside one of the four side planes
abbrev pub culled : List ℕ → Bool
culled cs = not (eqb (anded 0x0f cs) 0)

-- ---- the reason for its answer

-- the four side planes, 0 to 3, by the values of their bits: left, right, bottom, top
abbrev pub planes : List ℕ
planes = 1 ∷ 2 ∷ 4 ∷ 8 ∷ []

-- every code lies outside the plane of value v
abbrev pub all_outside : ℕ → List ℕ → Bool
all_outside v [] = true
all_outside v (c ∷ cs) = flag v c && all_outside v cs

-- the first slot that is not outside the plane of value v, of those from slot i on that have the codes; the one behind them where each is
abbrev pub first_inside : ℕ → ℕ → List ℕ → ℕ
first_inside v i [] = i
first_inside v i (c ∷ cs) = pick (flag v c) (first_inside v (i + 1) cs) i

-- the lowest of some planes that every code lies outside, counted from 0; how many they are where there is none
abbrev pub lowest : List ℕ → List ℕ → ℕ
lowest [] cs = 0
lowest (v ∷ vs) cs = pick (all_outside v cs) 0 (suc (lowest vs cs))

-- For yes the lowest plane that every slot lies outside; for no, for each plane, the first slot that is not outside it
unfoldable pub reason : ℕ → List ℕ → List ℕ
reason first cs = pick (culled cs) (1 ∷ lowest planes cs ∷ []) (0 ∷ map (λ (v : ℕ). first_inside v first cs) planes)

-- a reason as the code has it, by its values
abbrev pub told : Reason → List ℕ
told (AllOutside plane) = 1 ∷ plane ∷ []
told (FirstInside left right bottom top) = 0 ∷ left ∷ right ∷ bottom ∷ top ∷ []
