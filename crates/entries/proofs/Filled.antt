-- One entry stored at a stretch of places, place by place. Assumes nothing.
use mathlib.Core.Path.{◌≡◌, sym, ap, ◌∙◌}
use mathlib.Core.List.{List, ◌++◌}
use Prim.Native.Nat.{ℕ, suc, ◌+◌, ◌-◌, ◌≤◌, ◌<◌}
use native.Mathlib.Omega.{arith}
use lib.ListN.{length, set, replicate, length-replicate}
use lib.Seq.{sets}
use borrow.Author.Tests.{le-leb, lt-leb}
use Rattle.promise.specs.Over.{over}
use Rattle.promise.proofs.Over.{over_sets, length_over}
use Rattle.entries.specs.Entries.{filled}

-- one place more
pub stretch_more : (store : List ℕ) (i past v : ℕ) → i < past
    → sets (set store i v) (i + 1) (replicate (past - (i + 1)) v) ≡ sets store i (replicate (past - i) v)
stretch_more store i past v h =
    let e : past - i ≡ suc (past - (i + 1)) = omega arith in
    let one : i + 1 ≡ suc i = omega arith in
    ap (λ (k : ℕ). sets (set store i v) k (replicate (past - (i + 1)) v)) one ∙ sym (ap (λ (k : ℕ). sets store i (replicate k v)) e)

pub stretch_none : (store : List ℕ) (i past v : ℕ) → past ≤ i → sets store i (replicate (past - i) v) ≡ store
stretch_none store i past v h = let e : past - i ≡ 0 = omega arith in ap (λ (k : ℕ). sets store i (replicate k v)) e

-- within the store, and past its end
pub filled_within : (store : List ℕ) (from past v : ℕ) → past ≤ length store → filled store from past v ≡ sets store from (replicate (past - from) v)
unfolding filled
filled_within store from past v h = rw (le-leb past (length store) h)

pub filled_past : (store : List ℕ) (from past v : ℕ) → length store < past → filled store from past v ≡ store
unfolding filled
filled_past store from past v h = rw (lt-leb past (length store) h)

-- right after what was written so far
pub filled_over : (out lent : List ℕ) (at past v : ℕ) → length out ≡ at → at ≤ past → past ≤ length lent
    → filled (over out lent) at past v ≡ over (out ++ replicate (past - at) v) lent
filled_over out lent at past v e h l =
    filled_within (over out lent) at past v (omega (arith, length_over out lent (omega arith)))
    ∙ over_sets (replicate (past - at) v) out lent at e (omega (arith, length-replicate (past - at) v))
