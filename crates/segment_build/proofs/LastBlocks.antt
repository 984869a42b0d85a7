-- The last blocks stored one after the other. Assumes nothing.
use mathlib.Core.Path.{◌≡◌, refl, sym, ap, ◌∙◌}
use mathlib.Core.Bool.{Bool, true, false}
use mathlib.Core.List.{List}
use Prim.Native.Nat.{ℕ, ◌+◌, ◌*◌, ◌^◌, ◌≤◌, ◌<◌}
use native.Mathlib.Omega.{arith}
use lib.ListN.{length}
use Rattle.promise.specs.Over.{over}
use Rattle.promise.proofs.Over.{length_over}
use Rattle.lists.specs.Below.{number_below, gathered}
use Rattle.lists.specs.Numbered.{list_of, in_order}
use Rattle.lists.proofs.Numbered.{list_of_same}
use Rattle.lists.proofs.Below.{number_pass, number_zero, number_mono, length_gathered}
use Rattle.bits.specs.Prefix.{head}
use Rattle.bits.proofs.Prefix.{head_lt}
use Rattle.routes.specs.Routes.{ValidList}
use Rattle.routes.specs.Scan.{scan_of}
use Rattle.routes.specs.declared.Route.{Route}
use Rattle.segment_rules.specs.Packed.{block_size}
use Rattle.segment_rules.specs.Tables.{has_last, last_block, last_store}
use Rattle.segment_rules.proofs.Ports.{blocks_le}
use Rattle.segment_rules.proofs.Stores.{last_each}
use Rattle.segment_ports.specs.RunSearch.{port_from}
use Rattle.segment_ports.specs.Needs.{Resumes}
use Rattle.segment_build.specs.Needs.{is_new, Passed, PutLast, LastRoom}
use Rattle.segment_build.proofs.Passes.{passed_none, passed_on, passed_new, from_next, new_longer, none_before_new, none_after}
use Rattle.segment_build.proofs.Naming.{number_to}
use Rattle.segment_build.proofs.Storing.{gathered_to, block_room, block_more}

-- the last blocks before `next` are stored
pub record LastTo (R : ℕ → Route) (n : ℕ) (runs lent : List ℕ) (i next number run : ℕ) (last : List ℕ) : Type 0 where
  pub passed : Passed 32 R n 24 i next
  pub low : next ≤ 2 ^ 24
  pub numbered : number ≡ number_below (has_last R n) next
  pub resumes : Resumes runs 0 run (next * block_size)
  pub stored : last ≡ over (gathered (has_last R n) (last_block R n) next) lent

module _ (R : ℕ → Route) (n : ℕ) (runs lent : List ℕ) (room : LastRoom R n runs lent) where
  valid : ValidList 32 R n
  valid = room.ready.valid

  pub last_none : LastTo R n runs lent 0 0 0 0 lent
  unfolding in_order
  last_none = record {
    passed = passed_none 32 R n 24 valid;
    low = omega arith;
    numbered = sym (number_zero (has_last R n));
    resumes = λ a h. refl;
    stored = refl;
  }

  module _ {i next number run : ℕ} {last : List ℕ} (st : LastTo R n runs lent i next number run last) where
    pub number_le : number ≤ n
    number_le = omega (arith, st.numbered, blocks_le 32 R n 24 next)

    pub length_last_stored : length last ≡ length lent
    length_last_stored =
        let l = length_gathered (has_last R n) (last_block R n) block_size next (λ y a t. last_each R n y (omega (arith, st.low)) t) in
        ap length st.stored
        ∙ length_over (gathered (has_last R n) (last_block R n) next) lent
        (omega (arith, l, room.room, number_mono (has_last R n) next (2 ^ 24) st.low))

    -- what the code has read of route i
    module _ (h : i < n) (route : Route) (is : route ≡ R i) (new : Bool) (tested : new ≡ is_new 32 24 route next) where
      new_is : new ≡ is_new 32 24 (R i) next
      new_is = tested ∙ ap (λ (r : Route). is_new 32 24 r next) is

      pub last_on : new ≡ false → LastTo R n runs lent (i + 1) next number run last
      last_on f = record {
        passed = passed_on 32 R n 24 valid i next st.passed (sym new_is ∙ f);
        low = st.low;
        numbered = st.numbered;
        resumes = st.resumes;
        stored = st.stored;
      }

      module _ (t : new ≡ true) (y : ℕ) (block : y ≡ head 32 24 route.value) where
        y_is : y ≡ head 32 24 (R i).value
        y_is = block ∙ ap (λ (r : Route). head 32 24 r.value) is

        begins : is_new 32 24 (R i) next ≡ true
        begins = sym new_is ∙ t

        pub y_low : y < 2 ^ 24
        y_low = omega (arith, y_is, head_lt 32 24 (R i).value (omega arith) (valid.each i h).prefix.fits)

        later : next ≤ y
        later = omega (arith, y_is, from_next 32 R n 24 valid i next st.passed h begins)

        none : (z : ℕ) → next ≤ z → z < y → has_last R n z ≡ false
        none z a b = none_before_new 32 R n 24 valid i next st.passed h z a (omega (arith, y_is))

        here : has_last R n y ≡ true
        here = rw y_is (new_longer 32 R n 24 valid i next st.passed h begins)

        number_is : number ≡ number_below (has_last R n) y
        number_is = st.numbered ∙ sym (number_to (has_last R n) next y later none)

        pub last_room : number * block_size + block_size ≤ length last
        last_room =
            block_room (has_last R n) (last_block R n) block_size (2 ^ 24) (last_each R n) last lent next y st.stored later y_low none
            room.room here number number_is

        pub last_more : (run' : ℕ) (last' : List ℕ) → PutLast runs run y run' last number last' → LastTo R n runs lent (i + 1) (y + 1) (number + 1) run' last'
        last_more run' last' p = record {
          passed = rw y_is (passed_new 32 R n 24 valid i next st.passed h begins);
          low = omega (arith, y_low);
          numbered = ap (λ (k : ℕ). k + 1) number_is ∙ sym (number_pass (has_last R n) y here);
          resumes = λ a g. st.resumes a (omega (arith, later)) ∙ p.resumes a g;
          stored =
              p.written
              ∙ block_more (has_last R n) (last_block R n) block_size (2 ^ 24) (last_each R n) last lent next y st.stored later y_low none
              room.room here number number_is (list_of (λ b. port_from runs run b) block_size (y * block_size)) ports;
        }
          where
            ports : list_of (λ b. port_from runs run b) block_size (y * block_size) ≡ last_block R n y
            ports =
                list_of_same (λ b. port_from runs run b) (scan_of 32 R n) 256 (y * block_size) (λ b u v.
                sym (st.resumes b (omega (arith, later))) ∙ room.ready.ported b (omega (arith, y_low)))

    pub last_all : i ≡ n → last ≡ over (last_store R n) lent
    unfolding last_store
    last_all e =
        let p : Passed 32 R n 24 n next = rw e at st.passed in
        st.stored
        ∙ ap (λ (xs : List ℕ). over xs lent)
        (sym (gathered_to (has_last R n) (last_block R n) next (2 ^ 24) st.low (λ z a b. none_after 32 R n 24 valid next p z a)))
