-- Eighteen cases of the rules as one table, a row for each. A case that goes through commands says the number and the values
-- of each one's answer. `prints` of proofs/Proved.antt proves it whole.
use Rattle.std.specs.Prelude.{◌≡◌, true, false, List, [], ◌∷◌, ◌++◌, ℕ, zero, suc, ◌+◌, ◌*◌, replicate, get_or, ℤ, pos, negsuc, Float}
use Rattle.std.specs.Float.{binary32}
use Rattle.std.specs.Float.Ieee.{to_bits}
use Rattle.numbers.specs.Ratio.{of_ratio, is_ratio}
use Rattle.numbers.specs.Sqrt.{sqrt}
use Rattle.areas.specs.Widths.{word_width, colour_word, lights_word}
use Rattle.matrix.specs.Math.{at}
use Rattle.mode.specs.declared.ModeWord.{ModeWord}
use Rattle.mode.specs.Word.{joined}
use Rattle.decide.specs.Family.{family_of}
use Rattle.decide.specs.Lights.{light_number}
use Rattle.stage.specs.declared.State.{State}
pub use Rattle.stage.specs.Plan.{Answers}
use Rattle.stage.specs.Plan.{Outcome, carry, matrix_area, viewport_area, index_area, row_table, table_in, nothing}
use Rattle.stage.specs.Sound.{limit}
use Rattle.stage.specs.Opening.{zeros, blank, opening_plan, areas12}
use Rattle.stage.specs.Matrices.{matrix_plan, force_plan, viewport_plan, geometry_plan, area1, area2}
use Rattle.stage.specs.Load.{load_areas, LoadAreas, load_means}
use Rattle.stage.specs.Modify.{modify_means, ink_plan}
use Rattle.stage.specs.Draw.{cull_plan, explain_plan, depth_plan, draw_means}
use Rattle.layout.specs.Layout.{entry_at, viewport_at}

-- x is the fraction z / d, exactly
abbrev pub Is : Float → ℤ → ℕ → Type 0
Is x z d = is_ratio x z d ≡ true

-- the whole number z as an f32
abbrev pub whole : ℤ → Float
whole z = of_ratio binary32 z 1

-- the bytes of a matrix that begins with the whole parts 1, -1, 32767 and the fractions 0x8000, 0x8000, 65535
abbrev pub matrix_bytes : List ℕ
matrix_bytes =
    (0x00 ∷ 0x01 ∷ 0xFF ∷ 0xFF ∷ 0x7F ∷ 0xFF ∷ replicate 26 0)
    ++ (0x80 ∷ 0x00 ∷ 0x80 ∷ 0x00 ∷ 0xFF ∷ 0xFF ∷ replicate 26 0)

-- the bytes of a viewport whose scales are 640, 480, 511
abbrev pub viewport_bytes : List ℕ
viewport_bytes = 0x02 ∷ 0x80 ∷ 0x01 ∷ 0xE0 ∷ 0x01 ∷ 0xFF ∷ replicate 10 0

-- what a command comes to is done, and tells nothing; it is done, and tells n
abbrev pub Done : {A : Type 0} → Outcome A → Type 0
Done o = Answers o 0 []

abbrev pub Tells : {A : Type 0} → Outcome A → ℕ → Type 0
Tells o n = Answers o 0 (n ∷ [])

-- what opening comes to, with room for one entry in table 1 and two in table 2; and the state it hands back
abbrev pub opening : Outcome (List Float × List Float)
opening = carry areas12 (opening_plan (zeros 16) (zeros 12)) (blank false) (zeros 16, zeros 12)

abbrev pub opened : State
opened = opening.state

-- then a viewport whose z scale and translation are 511
unfoldable pub viewed : Outcome (List Float)
viewed =
    let l = opening.areas.1 in
    carry area2 (viewport_plan opened (table_in viewport_area opened.counts l) (replicate 4 0 ++ (0x01 ∷ 0xFF ∷ replicate 6 0) ++ (0x01 ∷ 0xFF ∷ 0 ∷ 0 ∷ [])) 0) opened l

-- the bytes of a vertex at a point of signed halves x, y, z
abbrev pub point_bytes : ℕ → ℕ → ℕ → ℕ → ℕ → ℕ → List ℕ
point_bytes a b c d e f = a ∷ b ∷ c ∷ d ∷ e ∷ f ∷ replicate 10 0

-- table 1 as opening left it, and areas with room for four rows and two scale entries
abbrev pub lent_areas : LoadAreas
lent_areas = load_areas opening.areas.0 (zeros 8) [] [] [] (zeros 36) (replicate 40 0)

-- a load of n vertices into the slots from first on. Opening leaves the matrix undefined, so each load of these cases tells 1
unfoldable pub load : State → LoadAreas → ℕ → ℕ → List ℕ → Outcome LoadAreas
load s l first n bytes = load_means s first n bytes 0 l

-- one vertex of these bytes loaded into slot 0, after opening
abbrev pub one : List ℕ → Outcome LoadAreas
one bytes = load opened lent_areas 0 1 bytes

-- vertices of codes 34 and 32 loaded into slots 0 and 1, after opening
abbrev pub both : Outcome LoadAreas
both = load opened lent_areas 0 2 (point_bytes 0 2 0 0 0 2 ++ point_bytes 0 0 0 0 0 2)

-- vertices of codes 5 and 6, outside left and bottom and outside right and bottom, loaded likewise
abbrev pub below : Outcome LoadAreas
below = load opened lent_areas 0 2 (point_bytes 0xFF 0xFB 0xFF 0xFB 0 0 ++ point_bytes 0 5 0xFF 0xFB 0 0)

-- a vertex with a screen z loaded into slot 0, after that viewport
abbrev pub deep : Outcome LoadAreas
deep = load viewed.state lent_areas 0 1 (point_bytes 0 0 0 0 0 1)

-- a modify of a slot
unfoldable pub modify : State → LoadAreas → ℕ → ℕ → ℕ → Outcome (List Float × List Float × List ℕ)
modify s l slot attribute value = modify_means s slot attribute value (l.scales, l.floats, l.words)

-- a modify of slot 0, after the vertex with a screen z is loaded into it
abbrev pub modified : ℕ → ℕ → Outcome (List Float × List Float × List ℕ)
modified attribute value = modify deep.state deep.areas 0 attribute value

-- the cull test of slots 0 and 1, its explainer from slot first to slot last, and the depth test of slot 0
abbrev pub culled : State → Outcome (Unit {0})
culled s = carry nothing (cull_plan (limit s) s 0 1) s tt

abbrev pub explained : State → ℕ → ℕ → Outcome (Unit {0})
explained s first last = carry nothing (explain_plan (limit s) s first last) s tt

abbrev pub near : State → ℕ → Outcome (Unit {0})
near s threshold = carry nothing (depth_plan (limit s) s 0 threshold) s tt

-- a draw of slots 0, 1 and 2 with the areas l
unfoldable pub drawn : State → List ℕ × List ℕ → Outcome (List ℕ × List ℕ)
drawn s l = draw_means s 0 1 2 (0 ∷ 0 ∷ 0 ∷ 0 ∷ []) l

-- a slot has the clip code n
abbrev pub Code : State → ℕ → ℕ → Type 0
Code s slot n = (get_or s.coded slot false ≡ true) × (get_or s.code slot 99 ≡ n)

-- one vertex of these bytes is loaded, and has the clip code n
abbrev pub Coded : List ℕ → ℕ → Type 0
Coded bytes n = Tells (one bytes) 1 × Code (one bytes).state 0 n

-- three loads, of a vertex each, into slots 0, 1 and 2
unfoldable pub load0 : Outcome LoadAreas
load0 = load opened lent_areas 0 1 (point_bytes 0 0 0 0 0 0)

unfoldable pub load1 : Outcome LoadAreas
load1 = load load0.state load0.areas 1 1 (point_bytes 0 1 0 0 0 0)

unfoldable pub load2 : Outcome LoadAreas
load2 = load load1.state load1.areas 2 1 (point_bytes 0 0 0 1 0 0)

-- then draw 0 1 2, with room for 6 indices and one run; modify slot 1; draw again
unfoldable pub draw1 : Outcome (List ℕ × List ℕ)
draw1 = drawn load2.state (replicate 6 99, replicate 8 99)

unfoldable pub modify1 : Outcome (List Float × List Float × List ℕ)
modify1 = modify draw1.state load2.areas 1 0x10 0

unfoldable pub draw2 : Outcome (List ℕ × List ℕ)
draw2 = drawn modify1.state draw1.areas

-- a geometry mode by a mode word
abbrev pub moded : State → ModeWord → Outcome (Unit {0})
moded s w = carry nothing (geometry_plan (family_of s.microcode) s w.off w.on) s tt

-- the lighting bit turned over by one mode word, after opening, and back by a second; and the two joined
abbrev pub over : ModeWord
over = record { off = 0xFFFFFFFF; on = 0x00020000 }

abbrev pub back : ModeWord
back = record { off = 0xFFFDFFFF; on = 0 }

abbrev pub in_turn : Outcome (Unit {0})
in_turn = moded (moded opened over).state back

abbrev pub as_one : Outcome (Unit {0})
as_one = moded opened (joined over back)

-- the bytes of a vertex whose colour word is 0x04030201
abbrev pub ink_bytes : List ℕ
ink_bytes = replicate 12 0 ++ (1 ∷ 2 ∷ 3 ∷ 4 ∷ [])

-- it is loaded into slot 0, with room for one light; the lighting bit is set; it is loaded into slot 1, and one of zeros into slot 2
unfoldable pub load_unlit : Outcome LoadAreas
load_unlit = load opened (load_areas opening.areas.0 (zeros 8) (zeros 6) [] [] (zeros 36) (replicate 40 0)) 0 1 ink_bytes

abbrev pub lighting : Outcome (Unit {0})
lighting = moded load_unlit.state over

unfoldable pub load_lit : Outcome LoadAreas
load_lit = load lighting.state load_unlit.areas 1 2 (ink_bytes ++ replicate 16 0)

-- then draw 0 1 2; modify slot 1 to that colour; draw 1 1 1
unfoldable pub draw_lit : Outcome (List ℕ × List ℕ)
draw_lit = drawn load_lit.state (replicate 6 99, replicate 8 99)

unfoldable pub recolour : Outcome (List Float × List Float × List ℕ)
recolour = modify draw_lit.state load_lit.areas 1 0x10 0x01020304

unfoldable pub draw_recoloured : Outcome (List ℕ × List ℕ)
draw_recoloured = draw_means recolour.state 1 1 1 (0 ∷ 0 ∷ 0 ∷ 0 ∷ []) draw_lit.areas

-- an ink count over the rows, f and w, and the indices l
unfoldable pub ink_count : State → List Float → List ℕ → List ℕ → ℕ → Outcome (Unit {0})
ink_count s f w l colour = carry nothing (ink_plan s (row_table s.counts.rows f w) (table_in index_area s.counts l) colour) s tt

-- with that draw, and with the second
abbrev pub ink_lit : ℕ → Outcome (Unit {0})
ink_lit colour = ink_count draw_lit.state load_lit.areas.floats load_lit.areas.words draw_lit.areas.0 colour

abbrev pub ink_recoloured : ℕ → Outcome (Unit {0})
ink_recoloured colour = ink_count draw_recoloured.state recolour.areas.1 recolour.areas.2 draw_recoloured.areas.0 colour

-- table 1 as opening left it, with room for two entries more; a matrix loaded as top of the stack, and a forced matrix
abbrev pub roomy : List Float
roomy = opening.areas.0 ++ zeros 32

unfoldable pub load_matrix : State → List Float → List ℕ → Outcome (List Float)
load_matrix s l bytes = carry area1 (matrix_plan (family_of s.microcode) s (table_in matrix_area s.counts l) 2 bytes 0) s l

unfoldable pub force : State → List Float → List ℕ → Outcome (List Float)
force s l bytes = carry area1 (force_plan s (table_in matrix_area s.counts l) bytes 0) s l

-- n times the two bytes a and b; the bytes of a matrix of sixteen equal entries, whole parts of a and b, fractions of c and d
abbrev pub pairs : ℕ → ℕ → ℕ → List ℕ
pairs zero a b = []
pairs (suc n) a b = a ∷ b ∷ pairs n a b

abbrev pub sixteen : ℕ → ℕ → ℕ → ℕ → List ℕ
sixteen a b c d = pairs 16 a b ++ pairs 16 c d

-- the bytes of a matrix whose first row is -32768, 255 + 65535/65536, 256 + 1/65536, 32767 + 65535/65536, and 0 the rest: two of the sixteen are not exact
abbrev pub some_bytes : List ℕ
some_bytes = (0x80 ∷ 0x00 ∷ 0x00 ∷ 0xFF ∷ 0x01 ∷ 0x00 ∷ 0x7F ∷ 0xFF ∷ replicate 24 0) ++ (0x00 ∷ 0x00 ∷ 0xFF ∷ 0xFF ∷ 0x00 ∷ 0x01 ∷ 0xFF ∷ 0xFF ∷ replicate 24 0)

-- it is loaded, and loaded again, which appends nothing
unfoldable pub some_first : Outcome (List Float)
some_first = load_matrix opened roomy some_bytes

unfoldable pub some_again : Outcome (List Float)
some_again = load_matrix some_first.state some_first.areas some_bytes

-- a row has this colour word and this light count
abbrev pub Lit : List ℕ → ℕ → ℕ → ℕ → Type 0
Lit words row colour lights = (get_or words (row * word_width + colour_word) 0 ≡ colour) × (get_or words (row * word_width + lights_word) 99 ≡ lights)

pub record Prints : Type 0 where
  -- what the cases of commands begin with
  pub begins : Done opening
  -- 1. whole 1, fraction 0x8000: 1.5; whole -1: -0.5; 32767 and 65535: 32768
  pub case1 : Is (entry_at matrix_bytes 0 0) (pos 3) 2 × Is (entry_at matrix_bytes 0 1) (negsuc 0) 2 × Is (entry_at matrix_bytes 0 2) (pos 32768) 1
  -- 2. 0x10 with 0x11223344: 0x44332211
  pub case2 : Done (modified 0x10 0x11223344) × (get_or (modified 0x10 0x11223344).areas.2 4 0 ≡ 0x44332211)
  -- 3. 0x14 with 0xFFE00040: -1 and 2
  pub case3 : Done (modified 0x14 0xFFE00040) × Is (at (modified 0x14 0xFFE00040).areas.1 3) (negsuc 0) 1 × Is (at (modified 0x14 0xFFE00040).areas.1 4) (pos 2) 1
  -- 4. 0x18 with 0x0004FFFE: 1 and -0.5
  pub case4 : Done (modified 0x18 0x0004FFFE) × Is (at (modified 0x18 0x0004FFFE).areas.1 5) (pos 1) 1 × Is (at (modified 0x18 0x0004FFFE).areas.1 6) (negsuc 0) 2
  -- 5. 0x1C with 16777217: 0.25, slot z 16777217/65536; with 0xFFFFFFFF: 64
  pub case5 : (Done (modified 0x1C 16777217) × Is (at (modified 0x1C 16777217).areas.1 7) (pos 1) 4 × Is (at (modified 0x1C 16777217).state.z 0) (pos 16777217) 65536) × (Done (modified 0x1C 0xFFFFFFFF) × Is (at (modified 0x1C 0xFFFFFFFF).areas.1 7) (pos 64) 1)
  -- 6. lights 23, 48, 191, 500: 0, 2, 7, 7
  pub case6 : (light_number 23 ≡ 0) × (light_number 48 ≡ 2) × (light_number 191 ≡ 7) × (light_number 500 ≡ 7)
  -- 7. square root of 2.0f: bits 0x3FB504F3
  pub case7 : to_bits binary32 (sqrt binary32 (whole (pos 2))) ≡ 0x3FB504F3
  -- 8. viewport scale 640, 480, 511: 160, 120, 0.4990234375
  pub case8 : Is (at (viewport_at viewport_bytes 0).scale 0) (pos 160) 1 × Is (at (viewport_at viewport_bytes 0).scale 1) (pos 120) 1 × Is (at (viewport_at viewport_bytes 0).scale 2) (pos 4990234375) 10000000000
  -- 9. identity, points (1,0,0), (2,0,0), (2,-3,4): codes 0, 2, 38
  pub case9 : Coded (point_bytes 0 1 0 0 0 0) 0 × Coded (point_bytes 0 2 0 0 0 0) 2 × Coded (point_bytes 0 2 0xFF 0xFD 0 4) 38
  -- 10. codes 34 and 32: not culled
  pub case10 : (Tells both 1 × Code both.state 0 34 × Code both.state 1 32) × Tells (culled both.state) 0
  -- 11. point (0,0,1), z scale and translation 511: screen z 1022; threshold 66977792 yes, 66977791 no
  pub case11 : (Done viewed × Tells deep 1 × (get_or deep.state.deep 0 false ≡ true) × Is (at deep.state.z 0) (pos 1022) 1) × (Tells (near deep.state 66977792) 1 × Tells (near deep.state 66977791) 0)
  -- 12. three loads, draw 0 1 2, modify slot 1, draw again: indices 0 1 2 0 3 2, one run of 6
  pub case12 : (Tells load0 1 × Tells load1 1 × Tells load2 1 × Done draw1 × Done modify1 × Done draw2) × ((draw2.areas.0 ≡ 0 ∷ 1 ∷ 2 ∷ 0 ∷ 3 ∷ 2 ∷ []) × (draw2.areas.1 ≡ 0 ∷ 0 ∷ 0 ∷ 0 ∷ 0 ∷ 0 ∷ 0 ∷ 6 ∷ []) × (draw2.state.counts.runs ≡ 1))
  -- 13. the lighting bit turned over and back: the two mode words leave the word 0 and mark lights changed; the joined one leaves the word 0, and no mark
  pub case13 : (Done (moded opened over) × Done in_turn × Done as_one) × ((opened.geometry ≡ 0) × (opened.lights.changed ≡ false)) × ((in_turn.state.geometry ≡ 0) × (in_turn.state.lights.changed ≡ true)) × ((as_one.state.geometry ≡ 0) × (as_one.state.lights.changed ≡ false))
  -- 14. one unlit and one lit corner with the same colour word: 1 is counted; and none for the word of a corner that is lit
  pub case14 : (Tells load_unlit 1 × Done lighting × Tells load_lit 1 × Done draw_lit) × (Lit load_lit.areas.words 0 0x04030201 0 × Lit load_lit.areas.words 1 0x04030201 1 × Lit load_lit.areas.words 2 0 1) × (Tells (ink_lit 0x04030201) 1 × Tells (ink_lit 0) 0)
  -- 15. the lit one set to that colour by modify, and drawn three times: 3 more are counted
  pub case15 : (Done recolour × Done draw_recoloured × (draw_recoloured.areas.0 ≡ 0 ∷ 1 ∷ 2 ∷ 3 ∷ 3 ∷ 3 ∷ [])) × Lit recolour.areas.2 3 0x04030201 0 × Tells (ink_recoloured 0x04030201) 4
  -- 16. sixteen entries of -32768 + 255/256, loaded and forced: each is exact, 0 is told
  pub case16 : Tells (load_matrix opened roomy (sixteen 0x80 0x00 0xFF 0x00)) 0 × Tells (force opened roomy (sixteen 0x80 0x00 0xFF 0x00)) 0
  -- 17. sixteen entries of 32767 + 65535/65536: none is, 16 is told; with no room for the entry nothing is
  pub case17 : Tells (load_matrix opened roomy (sixteen 0x7F 0xFF 0xFF 0xFF)) 16 × Tells (force opened roomy (sixteen 0x7F 0xFF 0xFF 0xFF)) 16 × Answers (force opened opening.areas.0 (sixteen 0x7F 0xFF 0xFF 0xFF)) 9 (1 ∷ [])
  -- 18. of -32768, 255 + 65535/65536, 256 + 1/65536, 32767 + 65535/65536 and twelve 0 two are not exact; loaded again, where nothing is appended, it tells the same
  pub case18 : (Tells some_first 2 × Tells some_again 2) × ((some_first.state.counts.matrices ≡ 2) × (some_again.state.counts.matrices ≡ 2))
  -- 19. codes 5 and 6: culled, all outside plane 2, the bottom; slot 0 alone is outside planes 0 and 2, of which 0 is named
  pub case19 : (Tells below 1 × Code below.state 0 5 × Code below.state 1 6 × Tells (culled below.state) 1) × (Answers (explained below.state 0 1) 0 (1 ∷ 2 ∷ []) × Answers (explained below.state 0 0) 0 (1 ∷ 0 ∷ []))
  -- 20. codes 34 and 32: not culled; slot 1 is the first that is not outside plane 1, the right, and slot 0 of the others; slot 1 alone
  pub case20 : Answers (explained both.state 0 1) 0 (0 ∷ 0 ∷ 1 ∷ 0 ∷ 0 ∷ []) × Answers (explained both.state 1 1) 0 (0 ∷ 1 ∷ 1 ∷ 1 ∷ 1 ∷ [])
  -- 21. code 0, and a slot that is not loaded: 3 with slot 1, though slot 0 is outside no plane; slots 1 to 0: 2
  pub case21 : Code (one (point_bytes 0 1 0 0 0 0)).state 0 0 × Answers (explained (one (point_bytes 0 1 0 0 0 0)).state 0 1) 3 (1 ∷ []) × Answers (explained (one (point_bytes 0 1 0 0 0 0)).state 1 0) 2 (1 ∷ 0 ∷ [])
