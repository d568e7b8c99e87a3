-- What the rows of a load leave in the slots. Definitions only.
use Rattle.std.specs.Prelude.{ℕ, ◌+◌, true, false, List, [], ◌∷◌, set, Float, is_some, unwrap_or}
use Rattle.matrix.specs.Math as math
use Rattle.layout.specs.declared.records.Vertex.{Vertex}
use Rattle.vertex.specs.declared.Shared.{Shared}
use Rattle.vertex.specs.declared.Slot.{Slot}
use Rattle.vertex.specs.Vertices.{slot_of}
use Rattle.stage.specs.declared.State.{State}
use Rattle.stage.specs.With.{with_slots}

-- slot k gets row r, and is loaded, not drawn, with the code and the screen z of v, 0 where v has none
unfoldable pub fill_slot : State → ℕ → ℕ → Slot → State
fill_slot s k r v =
    with_slots s
    (record {
      row = set s.row k r;
      ever = set s.ever k true;
      loaded = set s.loaded k true;
      drawn = set s.drawn k false;
      coded = set s.coded k (is_some v.code);
      code = set s.code k (unwrap_or v.code 0);
      deep = set s.deep k (is_some v.z);
      z = set s.z k (unwrap_or v.z math.zero);
    })

-- a slot for each vertex from slot k on, their rows from row r on
unfoldable pub fill_slots : State → List (List Float) → Shared → ℕ → ℕ → List Vertex → State
fill_slots s m e k r [] = s
fill_slots s m e k r (v ∷ vs) = fill_slots (fill_slot s k r (slot_of m e v)) m e (k + 1) (r + 1) vs
