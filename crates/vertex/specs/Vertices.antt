-- The vertices of a load: where each is read, its row of table 7, and what its slot gets. Definitions only.
use Rattle.std.specs.Prelude.{ℕ, zero, suc, ◌+◌, List, [], ◌∷◌, Float, is_some}
use Rattle.matrix.specs.Math as math
use Rattle.matrix.specs.Math.{at, one, row_times}
use Rattle.matrix.specs.Clip.{code_of, depth_of}
use Rattle.layout.specs.Layout.{vertex_at}
use Rattle.layout.specs.declared.records.Vertex.{Vertex}
use Rattle.vertex.specs.declared.Shared.{Shared}
use Rattle.vertex.specs.declared.Slot.{Slot}

-- the f32 of a row: position x y z, s, t, four screen numbers
unfoldable pub floats_of : Vertex → List Float
floats_of v =
    at v.pos 0 ∷ at v.pos 1 ∷ at v.pos 2 ∷ at v.st 0 ∷ at v.st 1
    ∷ math.zero ∷ math.zero ∷ math.zero ∷ math.zero ∷ []

-- the u32 of a row: modify flags, matrix, viewport, texture scale, colour word, first light, light count, texgen mode, fog, lookat
unfoldable pub words_of : Shared → Vertex → List ℕ
words_of e v =
    0 ∷ e.matrix ∷ e.viewport ∷ e.scale ∷ v.colour ∷ e.light ∷ e.lights ∷ e.texgen ∷ e.fog ∷ e.lookat ∷ []

-- the position in clip space, x y z w
unfoldable pub clip_of : List (List Float) → Vertex → List Float
clip_of m v = row_times (at v.pos 0 ∷ at v.pos 1 ∷ at v.pos 2 ∷ one ∷ []) m

-- what the slot gets of a position in clip space
unfoldable pub slot_at : Shared → List Float → Slot
slot_at e p =
    let code = code_of p in
    record { code = code; z = depth_of p (is_some code) e.zscale e.ztranslation }

-- what the slot of a vertex gets
unfoldable pub slot_of : List (List Float) → Shared → Vertex → Slot
slot_of m e v = slot_at e (clip_of m v)

-- the vertices of 16 bytes each from place i on, n of them
unfoldable pub vertices_at : List ℕ → ℕ → ℕ → List Vertex
vertices_at s i zero = []
vertices_at s i (suc n) = vertex_at s i ∷ vertices_at s (i + 16) n
