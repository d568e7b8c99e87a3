-- What is left to play, as the loop goes on: each op takes its part of it, and the end leaves none. Assumes nothing.
use mathlib.Core.Path.{◌≡◌, refl, ◌∙◌}
use Prim.Native.Nat.{ℕ, zero, suc, ◌+◌, ◌≤◌, ◌<◌}
use native.Mathlib.Omega.{arith}
use mathlib.Core.List.{List}
use lib.ListN.{length}
use borrow.Author.Tests.{lt-ltb, le-ltb}
use Rattle.std.specs.Prelude.{Ok, Err}
use Rattle.numbers.specs.Choice.{pick}
use Rattle.stage.specs.declared.Answered.{Answered}
use Rattle.stage.specs.Plan.{outcome}
use Rattle.sequence.specs.Sequence.{Areas, Port}
use Rattle.trace.specs.declared.rooms.Lengths.{Lengths}
use Rattle.trace.specs.declared.script.Call.{Call}
use Rattle.trace.specs.declared.ops.Cut.{Cut}
use Rattle.trace.specs.Script.{call_at}
use Rattle.trace.specs.Acts.{length_list, lent_after}
use Rattle.player.specs.Ops.{step_by}
use Rattle.player.specs.Play.{port_of, lengths_in, data_of, play_from}

-- the ops from a place on bring p to q, for as many of them as there are bytes at least
pub record Left (s : List ℕ) (at : ℕ) (lent : Lengths) (p q : Port) : Type 0 where
  pub most : ℕ
  pub enough : length s ≤ most + at
  pub brings : play_from most s at lent p ≡ q

module _ (s : List ℕ) (at : ℕ) (lent : Lengths) (p q : Port) where
  -- what is left behind the op c, with n ops more at most
  abbrev behind : ℕ → Call → Port
  behind n c = let o = step_by c (data_of s c) lent p in play_from n s c.to (lengths_in (lent_after c (length_list lent))) (port_of o.state o.areas)

  -- an op that is read is played, and what is behind it is left
  pub left_behind : (c : Call) (r : Answered) (lent' : Lengths) (l : Areas) → at < length s → call_at s at ≡ Ok c → at < c.to
      → outcome r l ≡ step_by c (data_of s c) lent p → length_list lent' ≡ lent_after c (length_list lent) → Left s at lent p q → Left s c.to lent' (port_of r.state l) q
  unfolding play_from pick
  left_behind c r lent' l h e t o n f = go f.most f.enough f.brings
    where
      go : (k : ℕ) → length s ≤ k + at → play_from k s at lent p ≡ q → Left s c.to lent' (port_of r.state l) q
      go zero g b = absurd (omega arith)
      go (suc k) g b =
          let x : behind k c ≡ q = rw (lt-ltb at (length s) h, e) at b in
          let y : play_from k s c.to lent' (port_of r.state l) ≡ behind k c = λ i. play_from k s c.to (lengths_in (n i)) (port_of (o i).state (o i).areas) in
          record { most = k; enough = omega arith; brings = y ∙ x }

  -- where the script ends nothing is left to do
  pub ended : length s ≤ at → Left s at lent p q → p ≡ q
  unfolding play_from pick
  ended h f = go f.most f.brings
    where
      go : (k : ℕ) → play_from k s at lent p ≡ q → p ≡ q
      go zero b = b
      go (suc k) b = rw (le-ltb at (length s) h) at b

  -- nor where no op is read
  pub cut : (e : Cut) → at < length s → call_at s at ≡ Err e → Left s at lent p q → p ≡ q
  unfolding play_from pick
  cut e h w f = go f.most f.brings
    where
      go : (k : ℕ) → play_from k s at lent p ≡ q → p ≡ q
      go zero b = b
      go (suc k) b = rw (lt-ltb at (length s) h, w) at b
