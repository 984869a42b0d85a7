-- The entries of a segment, as the last blocks in it are named one after the other. Assumes nothing.
use mathlib.Core.Path.{◌≡◌, sym, ap, ◌∙◌}
use mathlib.Core.Bool.{Bool, true, false}
use mathlib.Core.List.{List}
use Prim.Native.Nat.{ℕ, ◌+◌, ◌-◌, ◌*◌, ◌/◌, ◌%◌, ◌≤◌, ◌<◌}
use native.Mathlib.Omega.{arith}
use lib.ListN.{set}
use Rattle.lists.specs.Below.{number_below}
use Rattle.lists.specs.Numbered.{list_of}
use Rattle.lists.proofs.Below.{number_skip, number_pass}
use Rattle.bits.specs.Prefix.{head}
use Rattle.bits.proofs.Prefix.{head_head}
use Rattle.routes.specs.Routes.{ValidList}
use Rattle.routes.specs.declared.Route.{Route}
use Rattle.segment_rules.specs.Blocks.{port_at}
use Rattle.segment_rules.specs.Packed.{block_size}
use Rattle.segment_rules.specs.Tables.{pointer, has_last, segment_entry, segment}
use Rattle.segment_rules.proofs.Ports.{blocks_le}
use Rattle.segment_build.specs.Needs.{is_new, Passed, marked, Begun, Pointed}
use Rattle.segment_build.proofs.Passes.{blocks_rise, passed_on, passed_new, from_next, new_longer, none_between, none_before_new, marked_none, marked_more, marked_all}

-- the number of blocks up to one, where there is none between
pub number_to : (test : ℕ → Bool) (n m : ℕ) → n ≤ m → ((k : ℕ) → n ≤ k → k < m → test k ≡ false) → number_below test m ≡ number_below test n
number_to test n m h none =
    let z : n + (m - n) ≡ m = omega arith in
    ap (number_below test) (sym z) ∙ number_skip test n (m - n) (λ k a b. none k a (omega arith))

module _ (R : ℕ → Route) (n : ℕ) where
  abbrev names : ℕ → ℕ
  names y = pointer + number_below (has_last R n) y

  -- the first 16 bits and the first 24 of a route
  abbrev outer : ℕ → ℕ
  outer k = head 32 16 (R k).value

  abbrev inner : ℕ → ℕ
  inner k = head 32 24 (R k).value

  pub outer_inner : (k : ℕ) → outer k ≡ inner k / 256
  outer_inner k = head_head 32 16 24 (R k).value (omega arith) (omega arith)

  -- up to route i, the last blocks before `next` are named
  pub record Naming (x i next count : ℕ) (entries : List ℕ) : Type 0 where
    pub passed : Passed 32 R n 24 i next
    pub from : x * block_size ≤ next
    pub to : next ≤ x * block_size + block_size
    pub ahead : (k : ℕ) → i ≤ k → k < n → x ≤ outer k
    pub counted : count ≡ number_below (has_last R n) next
    pub marks : entries ≡ list_of (marked (has_last R n) names (port_at 32 R n 24) next) block_size (x * block_size)

  module _ (ok : ValidList 32 R n) where
    pub naming_none : (i x lasts : ℕ) (entries : List ℕ) → Begun R n i x lasts entries → Naming x i (x * block_size) lasts entries
    naming_none i x lasts entries b = record {
      passed = record {
        behind = λ k h long. omega (arith, b.behind k h (omega arith), outer_inner k);
        ahead = λ k h l. omega (arith, b.ahead k h l, outer_inner k);
      };
      from = omega arith;
      to = omega arith;
      ahead = b.ahead;
      counted = b.counted;
      marks = b.ports ∙ marked_none (has_last R n) names (port_at 32 R n 24) block_size (x * block_size) (x * block_size) (omega arith);
    }

    module _ {x i next count : ℕ} {entries : List ℕ} (st : Naming x i next count entries) where
      pub count_le : count ≤ n
      count_le = omega (arith, st.counted, blocks_le 32 R n 24 next)

      pub naming_on : (i < n) → is_new 32 24 (R i) next ≡ false → Naming x (i + 1) next count entries
      naming_on h f = record {
        passed = passed_on 32 R n 24 ok i next st.passed f;
        from = st.from;
        to = st.to;
        ahead = λ k a l. st.ahead k (omega arith) l;
        counted = st.counted;
        marks = st.marks;
      }

      -- route i names a block
      module _ (h : i < n) (within : outer i ≤ x) (t : is_new 32 24 (R i) next ≡ true) where
        later : next ≤ inner i
        later = from_next 32 R n 24 ok i next st.passed h t

        number_is : count ≡ number_below (has_last R n) (inner i)
        number_is =
            st.counted ∙ sym (number_to (has_last R n) next (inner i) later (none_before_new 32 R n 24 ok i next st.passed h))

        pub naming_more : (block : ℕ) (v : ℕ) (left : List ℕ) → block ≡ inner i → v ≡ pointer + count → left ≡ set entries (block % 256) v
            → Naming x (i + 1) (block + 1) (count + 1) left
        naming_more block v left b p e =
            let lies : inner i < x * block_size + block_size = omega (arith, outer_inner i) in
            let place : block % 256 ≡ inner i - x * block_size = omega (arith, b, later, st.from, lies) in
            let is = new_longer 32 R n 24 ok i next st.passed h t in
            record {
              passed = rw b (passed_new 32 R n 24 ok i next st.passed h t);
              from = omega (arith, b, later, st.from);
              to = omega (arith, b, lies);
              ahead = λ k a l. st.ahead k (omega arith) l;
              counted = rw b (ap (λ (m : ℕ). m + 1) number_is ∙ sym (number_pass (has_last R n) (inner i) is));
              marks =
                  e ∙ (λ j. set (st.marks j) (place j) ((p ∙ ap (λ (m : ℕ). pointer + m) number_is) j))
                  ∙ rw b (marked_more (has_last R n) names (port_at 32 R n 24) block_size (x * block_size) next (inner i)
                  (none_before_new 32 R n 24 ok i next st.passed h) is later (omega (arith, later, st.from)) lies);
            }

      -- no route that follows is of the segment
      pub named_all : ((k : ℕ) → i ≤ k → k < n → x < outer k) → Pointed R n x count entries
      unfolding segment segment_entry
      named_all past =
          let none = none_between 32 R n 24 ok i next st.passed (x * block_size + block_size) (λ k a l long. omega (arith, past k a l, outer_inner k)) in
          let e : (x + 1) * block_size ≡ x * block_size + block_size = omega arith in
          record {
            counted = st.counted ∙ sym (ap (number_below (has_last R n)) e ∙ number_to (has_last R n) next (x * block_size + block_size) st.to none);
            is = st.marks ∙ marked_all (has_last R n) names (port_at 32 R n 24) block_size (x * block_size) next none;
          }

      pub named_past : i < n → x < outer i → Pointed R n x count entries
      named_past h l = named_all (λ k a m. omega (arith, l, blocks_rise 32 R n 16 ok i k a m))

      pub named_end : n ≤ i → Pointed R n x count entries
      named_end h = named_all (λ k a m. absurd (omega arith))
