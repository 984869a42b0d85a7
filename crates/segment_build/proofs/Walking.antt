-- A pass over the segments: what one of them adds, and what is counted in the end. Assumes nothing.
use mathlib.Core.Path.{◌≡◌, refl, sym, ap, subst, ◌∙◌}
use mathlib.Core.Bool.{Bool, true, false, and-false, true≢false}
use mathlib.Core.List.{List}
use Prim.Native.Nat.{ℕ, ◌+◌, ◌*◌, ◌/◌, ◌^◌, ◌≤◌, ◌<◌}
use native.Mathlib.Omega.{arith}
use Rattle.lists.specs.Below.{number_below}
use Rattle.lists.specs.Numbered.{list_of}
use Rattle.lists.proofs.Tests.{test_no}
use Rattle.lists.proofs.Numbered.{list_of_same}
use Rattle.lists.proofs.Below.{number_pass, number_zero}
use Rattle.bits.specs.Prefix.{head}
use Rattle.bits.proofs.Prefix.{head_head, head_lt}
use Rattle.routes.specs.Routes.{ValidList}
use Rattle.routes.specs.declared.Route.{Route}
use Rattle.segment_rules.specs.Blocks.{port_at}
use Rattle.segment_rules.specs.Packed.{block_size, is_packed}
use Rattle.segment_rules.specs.Tables.{has_last, has_segment, segment, has_packed, has_plain}
use Rattle.segment_rules.proofs.Ports.{longer→route, route→longer}
use Rattle.segment_rules.proofs.Stores.{packed_of, plain_of, neither_of, numbers_fit}
use Rattle.segment_ports.specs.RunSearch.{port_from}
use Rattle.segment_ports.specs.Needs.{Resumes, Blocks, Ported}
use Rattle.segment_build.specs.declared.segments.Walk.{Walk}
use Rattle.segment_build.specs.declared.segments.Segment.{Segment}
use Rattle.segment_build.specs.Walks.{walk, walk_after}
use Rattle.segment_build.specs.Needs.{is_new, Passed, Ready, Begun, Pointed, Walked, Met, SegmentMet, NextSegment, Counted}
use Rattle.segment_build.proofs.Passes.{blocks_rise, passed_none, passed_on, passed_new, from_next, new_longer, none_before_new, none_after}
use Rattle.segment_build.proofs.Naming.{number_to}

module _ (R : ℕ → Route) (n : ℕ) where
  -- a last block lies in a segment
  pub last_in_segment : (y : ℕ) → has_last R n y ≡ true → has_segment R n (y / 256) ≡ true
  last_in_segment y t =
      let r = longer→route 32 R n 24 y t in
      route→longer 32 R n 16 (y / 256) (record {
        which = r.which;
        listed = r.listed;
        long = omega (arith, r.long);
        begins = head_head 32 16 24 (R r.which).value (omega arith) (omega arith) ∙ ap (λ (v : ℕ). v / 256) r.begins;
      })

  pub not_plain : (x : ℕ) → is_packed (segment R n x) ≡ true → has_plain R n x ≡ false
  unfolding has_plain
  not_plain x t = rw t (and-false (has_segment R n x))

  -- where no segment is, there is no block of any kind
  module _ (next to : ℕ) (h : next ≤ to) (none : (x : ℕ) → next ≤ x → x < to → has_segment R n x ≡ false) where
    pub none_packed : number_below (has_packed R n) to ≡ number_below (has_packed R n) next
    none_packed = number_to (has_packed R n) next to h (λ x u v. (neither_of R n x (none x u v)).0)

    pub none_plain : number_below (has_plain R n) to ≡ number_below (has_plain R n) next
    none_plain = number_to (has_plain R n) next to h (λ x u v. (neither_of R n x (none x u v)).1)

    pub none_last : number_below (has_last R n) (to * block_size) ≡ number_below (has_last R n) (next * block_size)
    none_last =
        number_to (has_last R n) (next * block_size) (to * block_size) (omega arith) (λ y u v.
        test_no (has_last R n y) (λ t. not_both (y / 256) (last_in_segment y t) (none (y / 256) (omega arith) (omega arith))))
      where
        not_both : (x : ℕ) → has_segment R n x ≡ true → has_segment R n x ≡ false → ⊥
        not_both x t f = true≢false (sym t ∙ f)

  -- at the start
  pub walked_none : (runs : List ℕ) (w : Walk) → ValidList 32 R n → w ≡ walk 0 0 0 0 0 → Walked R n runs 0 w
  walked_none runs w ok e = rw e (record {
    passed = passed_none 32 R n 16 ok;
    low = omega arith;
    packed_are = sym (number_zero (has_packed R n));
    plain_are = sym (number_zero (has_plain R n));
    last_are = sym (number_zero (has_last R n));
    resumes = λ a h. refl;
  })

  module _ (runs : List ℕ) (i : ℕ) (w : Walk) (ready : Ready R n runs) (st : Walked R n runs i w) where
    ok : ValidList 32 R n
    ok = ready.valid

    pub walked_few : (w.packed ≤ n) × (w.plain ≤ n) × (w.last ≤ n)
    walked_few = (
      omega (arith, st.packed_are, (numbers_fit R n w.next).0),
      omega (arith, st.plain_are, (numbers_fit R n w.next).0),
      omega (arith, st.last_are, (numbers_fit R n (w.next * block_size)).1),
    )

    -- a route that begins no new segment
    pub walked_on : is_new 32 16 (R i) w.next ≡ false → Walked R n runs (i + 1) w
    walked_on f = record {
      passed = passed_on 32 R n 16 ok i w.next st.passed f;
      low = st.low;
      packed_are = st.packed_are;
      plain_are = st.plain_are;
      last_are = st.last_are;
      resumes = st.resumes;
    }

  -- at the end
  pub counted_all : (runs : List ℕ) (w : Walk) → Ready R n runs → Walked R n runs n w → Counted R n w
  counted_all runs w ready st =
      let none : (x : ℕ) → w.next ≤ x → x < 2 ^ 16 → has_segment R n x ≡ false = λ x u v. none_after 32 R n 16 ready.valid w.next st.passed x u in
      record {
        packed_are = st.packed_are ∙ sym (none_packed w.next (2 ^ 16) st.low none);
        plain_are = st.plain_are ∙ sym (none_plain w.next (2 ^ 16) st.low none);
        last_are = st.last_are ∙ sym (none_last w.next (2 ^ 16) st.low none);
        few = walked_few runs n w ready st;
      }

-- route i begins segment x
module _ (R : ℕ → Route) (n : ℕ) (runs : List ℕ) (i x : ℕ) (w : Walk) (met : Met R n runs i x w) where
  abbrev valid : ValidList 32 R n
  valid = met.ready.valid

  abbrev st : Walked R n runs i w
  st = met.walked

  pub x_low : x < 2 ^ 16
  x_low =
      omega (arith, met.is, head_lt 32 16 (R i).value (omega arith) (valid.each i met.listed).prefix.fits)

  pub x_later : w.next ≤ x
  x_later = omega (arith, met.is, from_next 32 R n 16 valid i w.next st.passed met.listed met.new)

  pub none_before : (z : ℕ) → w.next ≤ z → z < x → has_segment R n z ≡ false
  none_before z u v = none_before_new 32 R n 16 valid i w.next st.passed met.listed z u (omega (arith, met.is))

  pub has_segment_lem : has_segment R n x ≡ true
  has_segment_lem = rw met.is (new_longer 32 R n 16 valid i w.next st.passed met.listed met.new)

  pub packed_number : w.packed ≡ number_below (has_packed R n) x
  packed_number = st.packed_are ∙ sym (none_packed R n w.next x x_later none_before)

  pub plain_number : w.plain ≡ number_below (has_plain R n) x
  plain_number = st.plain_are ∙ sym (none_plain R n w.next x x_later none_before)

  pub blocks_of : Blocks (x * block_size) block_size 8
  blocks_of = record { small = omega arith; few = omega (arith, x_low); within = omega (arith, x_low) }

  -- its ports
  module _ (run : ℕ) (entries : List ℕ) (p : Ported runs w.run (x * block_size) block_size 8 run entries) where
    ports_are_lem : entries ≡ list_of (port_at 32 R n 24) block_size (x * block_size)
    unfolding port_at
    ports_are_lem =
        p.entries
        ∙ list_of_same (λ b. port_from runs w.run (b * 2 ^ 8)) (port_at 32 R n 24) 256 (x * block_size) (λ b u v.
        sym (st.resumes (b * 2 ^ 8) (omega (arith, x_later))) ∙ met.ready.ported (b * 2 ^ 8) (omega (arith, x_low)))

    pub begun : Begun R n i x w.last entries
    begun = record {
      valid = valid;
      low = x_low;
      behind = λ k h long. omega (arith, st.passed.behind k h long, x_later);
      ahead = λ k h l. omega (arith, met.is, blocks_rise 32 R n 16 valid i k h l);
      counted = st.last_are ∙ sym (none_last R n w.next x x_later none_before);
      ports = ports_are_lem;
    }

    pub resumes_after : Resumes runs 0 run ((x + 1) * 65536)
    resumes_after a h = st.resumes a (omega (arith, x_later)) ∙ p.resumes a (omega arith)

    -- and the pass after it
    module _ (last : ℕ) (left : List ℕ) (q : Pointed R n x last left) (packed : Bool) (is-packed : packed ≡ is_packed left) where
      packed_is : packed ≡ is_packed (segment R n x)
      packed_is = is-packed ∙ ap is_packed q.is

      passed_after : Passed 32 R n 16 (i + 1) (x + 1)
      passed_after = rw met.is (passed_new 32 R n 16 valid i w.next st.passed met.listed met.new)

      after_of : (b : Bool) → is_packed (segment R n x) ≡ b → Walked R n runs (i + 1) (walk_after w x b last run)
      after_of true t =
          let is = packed_of R n x has_segment_lem t in
          record {
            passed = passed_after;
            low = omega (arith, x_low);
            packed_are = ap (λ (m : ℕ). m + 1) packed_number ∙ sym (number_pass (has_packed R n) x is);
            plain_are = plain_number ∙ sym (number_to (has_plain R n) x (x + 1) (omega arith) (λ z u v. let e : z ≡ x = omega arith in rw e (not_plain R n x t)));
            last_are = q.counted;
            resumes = resumes_after;
          }
      after_of false t =
          let is = plain_of R n x has_segment_lem t in
          record {
            passed = passed_after;
            low = omega (arith, x_low);
            packed_are = packed_number ∙ sym (number_to (has_packed R n) x (x + 1) (omega arith) (λ z u v. let e : z ≡ x = omega arith in rw e is.0));
            plain_are = ap (λ (m : ℕ). m + 1) plain_number ∙ sym (number_pass (has_plain R n) x is.1);
            last_are = q.counted;
            resumes = resumes_after;
          }

      next_of : (b : Bool) → (walk_after w x b last run).next ≡ x + 1
      next_of true = refl
      next_of false = refl

      pub segment_met : (s : Segment) → s.x ≡ x → s.from ≡ i + 1 → s.entries ≡ left → s.packed ≡ packed → s.after ≡ walk_after w x packed last run
          → SegmentMet R n runs i x w s
      segment_met s a b e f g = record {
        x_is = a;
        from_is = b;
        entries_are = e ∙ q.is;
        packed_is = f ∙ packed_is;
        next_is_lem = ap (λ (v : Walk). v.next) g ∙ next_of packed;
        after_is = rw (g, packed_is) (after_of (is_packed (segment R n x)) refl);
      }

-- what the code has read of route i
module _ (R : ℕ → Route) (n : ℕ) (runs : List ℕ) (i : ℕ) (w : Walk) (route : Route) (is : route ≡ R i) (new : Bool)
    (tested : new ≡ is_new 32 16 route w.next) where
  new_is : new ≡ is_new 32 16 (R i) w.next
  new_is = tested ∙ ap (λ (r : Route). is_new 32 16 r w.next) is

  pub meets : Ready R n runs → Walked R n runs i w → i < n → new ≡ true → (x : ℕ) → x ≡ head 32 16 route.value → Met R n runs i x w
  meets ready st h t x e = record {
    ready = ready;
    walked = st;
    listed = h;
    new = sym new_is ∙ t;
    is = e ∙ ap (λ (r : Route). head 32 16 r.value) is;
  }

  pub goes_by : Ready R n runs → Walked R n runs i w → new ≡ false → Walked R n runs (i + 1) w
  goes_by ready st f = walked_on R n runs i w ready st (sym new_is ∙ f)

-- route i is found to begin the next segment
pub next_met : (R : ℕ → Route) (n : ℕ) (runs : List ℕ) (i : ℕ) (w : Walk) (from x : ℕ) (s : Segment) → from ≤ i → Met R n runs i x w → SegmentMet R n runs i x w s
    → NextSegment R n runs from w s
next_met R n runs i w from x s h met is = record {
  route = i;
  later = h;
  met = subst (λ (y : ℕ). Met R n runs i y w) (sym is.x_is) met;
  is = subst (λ (y : ℕ). SegmentMet R n runs i y w s) (sym is.x_is) is;
}

module _ (R : ℕ → Route) (n : ℕ) (runs : List ℕ) (i : ℕ) (w : Walk) (s : Segment) (next : NextSegment R n runs i w s) where
  -- the pass goes on after it
  pub next_walked : Walked R n runs s.from s.after
  next_walked = rw next.is.from_is next.is.after_is

  pub next_passes : (i < s.from) × (s.from ≤ n)
  next_passes = (omega (arith, next.is.from_is, next.later), omega (arith, next.is.from_is, next.met.listed))

pub walked_end : (R : ℕ → Route) (n : ℕ) (runs : List ℕ) (i : ℕ) (w : Walk) → Walked R n runs i w → i ≡ n → Walked R n runs n w
walked_end R n runs i w st e = rw e at st
