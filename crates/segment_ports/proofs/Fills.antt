-- Entries of neighbouring blocks, filled run by run. Assumes nothing.
use mathlib.Core.Path.{◌≡◌, refl, sym, ap, ap₂, ◌∙◌}
use mathlib.Core.Bool.{Bool, true, false, cond}
use mathlib.Core.List.{List, ◌++◌, append-nil}
use Prim.Native.Nat.{ℕ, zero, suc, ◌+◌, ◌-◌, ◌*◌, ◌/◌, ◌^◌, ◌≤◌, ◌<◌}
use native.Mathlib.Omega.{arith}
use native.Mathlib.Nat.{mul-le-mul_right, suc-mul, le-div_iff_mul-le}
use lib.Dec.{leb}
use lib.Pow.{pow_pos}
use lib.ListN.{length, replicate, drop_of_length-le}
use borrow.Author.Tests.{leb-true, leb-false}
use Rattle.promise.specs.Over.{outcome, over}
use Rattle.promise.proofs.Over.{length_over}
use Rattle.lists.specs.Numbered.{list_of}
use Rattle.lists.proofs.Numbered.{list_of_append, list_of_one, length_list_of}
use Rattle.entries.specs.Entries.{filled}
use Rattle.entries.proofs.Filled.{filled_over}
use Rattle.segment_ports.specs.RunSearch.{run_end, run_port, run_of, past_of, port_from}
use Rattle.segment_ports.specs.Ports.{run_after, ports_from}
use Rattle.segment_ports.specs.Needs.{Blocks}
use Rattle.segment_ports.proofs.Runs.{run_of_here, run_of_reaches, run_of_resumed}

module _ (runs : List ℕ) (c block shift size at : ℕ) where
  abbrev last_block : ℕ
  last_block = run_end runs c / 2 ^ shift

  -- a run that reaches a block's first address fills its entry, and none past the last
  pub past_bounds : block ≤ at → at < block + size → at * 2 ^ shift ≤ run_end runs c
      → (at < block + past_of runs c block shift size) × (past_of runs c block shift size ≤ size)
  unfolding past_of
  past_bounds l h r = go (leb (block + size) last_block) refl
    where
      q : at ≤ last_block
      q = (le-div_iff_mul-le (pow_pos shift)).1 r

      go : (b : Bool) → leb (block + size) last_block ≡ b
          → (at < block + cond b size (last_block + 1 - block)) × (cond b size (last_block + 1 - block) ≤ size)
      go true t = (omega arith, omega arith)
      go false t = (omega (arith, q), omega (arith, leb-false (block + size) last_block t))

  -- and a block whose entry it fills begins in it
  pub past_reached : block ≤ at → at < block + past_of runs c block shift size → at * 2 ^ shift ≤ run_end runs c
  unfolding past_of
  past_reached l h = (le-div_iff_mul-le (pow_pos shift)).0 (go (leb (block + size) last_block) refl h)
    where
      go : (b : Bool) → leb (block + size) last_block ≡ b → at < block + cond b size (last_block + 1 - block) → at ≤ last_block
      go true t h = omega (arith, leb-true (block + size) last_block t)
      go false t h = omega arith

-- where the run of a later block may be sought
module _ (runs : List ℕ) (from block shift : ℕ) where
  pub after_resumes : (k a : ℕ) → (block + k) * 2 ^ shift ≤ a → run_of runs from a ≡ run_of runs (run_after runs from block shift k) a
  unfolding run_after
  after_resumes zero a h = refl
  after_resumes (suc k) a h =
      let l : block + k ≤ block + suc k = omega arith in
      run_of_resumed runs from ((block + k) * 2 ^ shift) a (omega (arith, mul-le-mul_right (2 ^ shift) l))

-- one run more: its entries, and it is the run of the last of them
module _ (runs lent : List ℕ) (from block shift k past : ℕ) where
  abbrev g : ℕ → ℕ
  g b = port_from runs from (b * 2 ^ shift)

  abbrev found : ℕ
  found = run_of runs from ((block + k) * 2 ^ shift)

  abbrev Reached : Type 0
  Reached = (b : ℕ) → block + k ≤ b → b < block + past → b * 2 ^ shift ≤ run_end runs found

  run_is : Reached → (b : ℕ) → block + k ≤ b → b < block + past → run_of runs from (b * 2 ^ shift) ≡ found
  run_is reached b h l =
      run_of_resumed runs from ((block + k) * 2 ^ shift) (b * 2 ^ shift) (mul-le-mul_right (2 ^ shift) h)
      ∙ run_of_here runs found (b * 2 ^ shift) (reached b h l)

  pub fill_more : Reached → k ≤ past → past ≤ length lent
      → filled (over (list_of g k block) lent) k past (run_port runs found) ≡ over (list_of g past block) lent
  fill_more reached h l =
      let z : k + (past - k) ≡ past = omega arith in
      let rest : list_of g (past - k) (block + k) ≡ replicate (past - k) (run_port runs found) =
      list_of_one g (run_port runs found) (past - k) (block + k) (λ b u v. ap (run_port runs) (run_is reached b u (omega arith))) in
      filled_over (list_of g k block) lent k past (run_port runs found) (length_list_of g k block) h l
      ∙ ap (λ (xs : List ℕ). over (list_of g k block ++ xs) lent) (sym rest)
      ∙ ap (λ (xs : List ℕ). over xs lent) (sym (list_of_append g k (past - k) block) ∙ ap (λ (m : ℕ). list_of g m block) z)

  pub after_more : Reached → k < past → found ≡ run_after runs from block shift past
  unfolding run_after
  after_more reached h =
      let z : past ≡ suc (past - 1) = omega arith in
      rw z (sym (run_is reached (block + (past - 1)) (omega arith) (omega arith)))

-- none, and all
pub fill_none : (f : ℕ → ℕ) (lent : List ℕ) (block : ℕ) → lent ≡ over (list_of f 0 block) lent
unfolding list_of
fill_none f lent block = refl

pub fill_all : (f : ℕ → ℕ) (lent : List ℕ) (block size : ℕ) → size ≡ length lent → over (list_of f size block) lent ≡ list_of f size block
fill_all f lent block size e =
    let past : length lent ≤ length (list_of f size block) = omega (arith, length_list_of f size block) in
    ap (λ (xs : List ℕ). list_of f size block ++ xs) (drop_of_length-le lent past) ∙ append-nil (list_of f size block)

-- the loop: the first k entries are filled
pub record FilledTo (runs lent : List ℕ) (from block shift size run k : ℕ) (entries : List ℕ) : Type 0 where
  pub few : k ≤ size
  pub so_far : entries ≡ over (list_of (λ b. port_from runs from (b * 2 ^ shift)) k block) lent
  pub run_after_lem : run ≡ run_after runs from block shift k

module _ (runs lent : List ℕ) (from block shift size : ℕ) (ok : Blocks block size shift) (sized : size ≡ length lent) where
  pub filled_none : FilledTo runs lent from block shift size from 0 lent
  unfolding run_after
  filled_none = record {
    few = omega arith;
    so_far = fill_none (λ b. port_from runs from (b * 2 ^ shift)) lent block;
    run_after_lem = refl;
  }

  -- blocks lie in the space
  pub block_lt : (b : ℕ) → b < block + size → b * 2 ^ shift < 2 ^ 32
  block_lt b h = omega (arith, ok.within, mul-le-mul_right (2 ^ shift) h, suc-mul b (2 ^ shift), pow_pos shift)

  module _ {run k : ℕ} {entries : List ℕ} (st : FilledTo runs lent from block shift size run k entries) (more : k < size)
      (address next : ℕ) (first : address ≡ (block + k) * 2 ^ shift) (is : next ≡ run_of runs run address) where
    next_is_lem : next ≡ run_of runs from ((block + k) * 2 ^ shift)
    next_is_lem =
        is ∙ ap₂ (run_of runs) st.run_after_lem first
        ∙ sym (after_resumes runs from block shift k ((block + k) * 2 ^ shift) (omega arith))

    pub next_reaches : (block + k) * 2 ^ shift ≤ run_end runs next
    next_reaches = rw next_is_lem (run_of_reaches runs from ((block + k) * 2 ^ shift) (block_lt (block + k) (omega arith)))

    pub from_block : block * 2 ^ shift ≤ run_end runs next
    from_block =
        let h : block ≤ block + k = omega arith in omega (arith, next_reaches, mul-le-mul_right (2 ^ shift) h)

    module _ (past : ℕ) (past_is : past ≡ past_of runs next block shift size) where
      bounds : (block + k < block + past) × (past ≤ size)
      bounds = rw past_is (past_bounds runs next block shift size (block + k) (omega arith) (omega arith) next_reaches)

      pub goes_on_lem : k < past
      goes_on_lem = omega (arith, bounds.0)

      pub filled_more : (port : ℕ) (left : List ℕ) → port ≡ run_port runs next → left ≡ filled entries k past port
          → FilledTo runs lent from block shift size next past left
      filled_more port left p e = record {
        few = bounds.1;
        so_far =
            e ∙ ap₂ (λ (xs : List ℕ) (v : ℕ). filled xs k past v) st.so_far (p ∙ ap (run_port runs) next_is_lem)
            ∙ fill_more runs lent from block shift k past reached (omega (arith, bounds.0)) (omega (arith, bounds.1));
        run_after_lem = next_is_lem ∙ after_more runs lent from block shift k past reached goes_on_lem;
      }
        where
          reached : (b : ℕ) → block + k ≤ b → b < block + past → b * 2 ^ shift ≤ run_end runs (run_of runs from ((block + k) * 2 ^ shift))
          reached b h l =
              rw next_is_lem at (past_reached runs next block shift size b (omega arith) (omega (arith, past_is)))

  pub filled_length : {run k : ℕ} {entries : List ℕ} → FilledTo runs lent from block shift size run k entries → length entries ≡ length lent
  filled_length {run} {k} {entries} st =
      ap length st.so_far
      ∙ length_over (list_of (λ b. port_from runs from (b * 2 ^ shift)) k block) lent
      (omega (arith, st.few, length_list_of (λ b. port_from runs from (b * 2 ^ shift)) k block))

  pub filled_all : {run k : ℕ} {entries : List ℕ} → FilledTo runs lent from block shift size run k entries → size ≤ k
      → outcome run entries ≡ ports_from runs from block shift size
  filled_all {run} {k} {entries} st h =
      let e : k ≡ size = omega (arith, st.few) in
      let left : entries ≡ list_of (λ b. port_from runs from (b * 2 ^ shift)) size block =
      st.so_far ∙ ap (λ (m : ℕ). over (list_of (λ b. port_from runs from (b * 2 ^ shift)) m block) lent) e
      ∙ fill_all (λ b. port_from runs from (b * 2 ^ shift)) lent block size sized in
      ap₂ outcome (st.run_after_lem ∙ ap (run_after runs from block shift) e) left
