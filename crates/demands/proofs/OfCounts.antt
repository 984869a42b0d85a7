-- Demand 1 of the calls with counts. Assumes nothing.
use mathlib.Core.Path.{◌≡◌, refl, sym, ap, subst, ◌∙◌}
use mathlib.Core.Logic.{◌⊎◌, inl, inr}
use mathlib.Core.Bool.{Bool, true, false, not, cond, true≢false}
use mathlib.Core.List.{List}
use Prim.Native.Nat.{ℕ, ◌+◌, ◌-◌, ◌%◌, ◌^◌, ◌<◌, ◌≤◌}
use native.Mathlib.Omega.{arith}
use lib.Dec.{eqb, leb, ltb}
use lib.ListN.{length, get_or}
use lib.Seq.{take_all}
use borrow.Author.Tests.{ne_eqb, eqb-true, eqb-false, leb-true, ltb-true, ltb-false, not-true, not-false}
use Rattle.promise.specs.Over.{Outcome, outcome, over}
use Rattle.lists.proofs.Tests.{way, both}
use Rattle.lists.proofs.Below.{passing}
use Rattle.bits.specs.Bits.{prefix_bits}
use Rattle.bits.specs.Prefix.{span, Valid, clear}
use Rattle.trie.specs.Routes.{Routes}
use Rattle.refusals.specs.Refusals.{long_prefix, spare_bits, wrong_port, no_room, not_held, not_in_order, refused, accepted, keeping_at}
use Rattle.refusals.specs.declared.Answer.{Answer}
use Rattle.routes.specs.Bounds.{last_port}
use Rattle.routes.specs.Check.{is_port, prefix_fault}
use Rattle.routes.specs.declared.Route.{Route}
use Rattle.octets.specs.Bytes.{Bytes}
use Rattle.table_rows.specs.Words.{capacity, row_at, five_words}
use Rattle.table_rules.specs.Holds.{GoodFor, GoodOrder}
use Rattle.table_rules.specs.Check.{is_good}
use Rattle.table_rules.specs.Announce.{is_held}
use Rattle.table_rules.specs.Withdraw.{withdrawn}
use Rattle.table_rules.proofs.Table.{held_is}
use Rattle.table_update.specs.Calls.{keeping, leaves, announced_words, announce_in, announce_into, prefix_only, withdraw_in, withdraw_into}
use Rattle.table_update.specs.History.{announcing, withdrawing, Table, ran}
use Rattle.message_rules.specs.Message.{withdrawn_in, announced_in}
use Rattle.message_rules.specs.Check.{message_check}
use Rattle.message_calls.specs.Named.{calls_for, final_count}
use Rattle.message_calls.specs.Apply.{done_as, applied_to, apply_into}
use Rattle.message_calls.specs.History.{Event, single, message, EventFits, outcome_on}
use Rattle.count_rules.specs.Tally.{ports, differ}
use Rattle.count_rules.specs.Counted.{Counted, counted, fault_of, counts_of, make_counts, first_check, recounted, counted_on}
use Rattle.count_rules.proofs.OfTable.{count_is}
use Rattle.count_rules.proofs.Counted.{length_counts, same_at}
use Rattle.count_rules.proofs.History.{in_step_is_plain}
use Rattle.demands.specs.Lamp.{Verdict, shows, done, refuse}
use Rattle.demands.specs.Checks.{prefix_checks, NotHeld}
use Rattle.demands.specs.CountChecks.{count_room, StaleCounts, step_checks, make_checks, update_checks}
use Rattle.demands.proofs.Tells.{Tells, tells_itself, tells_le, tells_lt, tells_port}
use Rattle.demands.proofs.Shown.{View, On, Refuses, writing, on_accepted, on_refused, on_test, on_test_then, on_unless_then}
use Rattle.demands.proofs.OfTables.{on_order, on_order_then}
use Rattle.demands.proofs.OfMessages.{on_message, tells_many}

pub make_refuses : (w : ℕ) (rows : List ℕ) (n : ℕ) (counts : List ℕ) → Refuses (make_checks w rows n counts) 0 counts (make_counts five_words w rows n counts)
unfolding make_counts
make_refuses w rows n counts =
    let v = writing 0 counts in
    let out = outcome (accepted 0) (over (counts_of five_words w rows n) counts) in
    let ordered : Bool → Outcome Answer = λ b. cond b out (outcome (refused not_in_order 0) counts) in
    on_test v (leb ports (length counts)) _ (tells_le ports (length counts)) no_room 0 _
    (λ b. cond b (ordered (is_good w (capacity rows) (row_at rows) n)) (outcome (refused no_room 0) counts))
    (on_order v w rows n done ordered (on_accepted 0 counts 0 (over (counts_of five_words w rows n) counts)) (on_refused counts not_in_order 0))
    (on_refused counts no_room 0)

-- an update: refused, it keeps n, the rows and the counts
abbrev pub booking : ℕ → List ℕ → List ℕ → View
booking n rows counts = record {
  Seen = Counted;
  number = λ o. o.answer.number;
  place = λ o. o.answer.place;
  Kept = λ o. (o.answer.count ≡ n) × (o.rows ≡ rows) × (o.counts ≡ counts);
}

-- in a table in good order, comparing the counts tells whether they are stale
tells_stale : (w : ℕ) (rows : List ℕ) (n : ℕ) (counts : List ℕ) → GoodOrder w (capacity rows) (row_at rows) n
    → Tells (not (differ counts (counts_of five_words w rows n))) (StaleCounts w rows n counts)
tells_stale w rows n counts order =
    let fresh = counts_of five_words w rows n in
    record {
      fine = λ e stale.
          let x = stale order.0 order.1 in
          x.2 (same_at counts fresh (not-true (differ counts fresh) e) x.0 x.1 ∙ count_is w (capacity rows) (row_at rows) n order.0 order.1 (omega arith) x.0 x.1);
      wrong = λ e S g.
          let p = passing (λ port. not (eqb (get_or counts port 0) (get_or fresh port 0))) ports (not-false (differ counts fresh) e) in
          let ne = eqb-false (get_or counts p.which 0) (get_or fresh p.which 0) (not-true (eqb (get_or counts p.which 0) (get_or fresh p.which 0)) p.passes) in
          (p.which, p.below, λ is. ne (is ∙ sym (count_is w (capacity rows) (row_at rows) n S g (omega arith) p.which p.below)));
    }

-- a table, the counts lent, and what an update does without them
module _ (w : ℕ) (rows : List ℕ) (n : ℕ) (counts : List ℕ) where
  abbrev view : View
  view = booking n rows counts

  abbrev kept : ℕ → Counted
  kept m = counted (keeping m n) rows counts

  -- the update with the counts that follow it
  abbrev followed : Outcome Answer → Counted
  followed o = counted o.answer o.lent (recounted five_words w o counts)

  kept_on : (m : ℕ) → On view (shows m 0) (kept m)
  kept_on m = record { exact = (refl, refl); kept = λ _. (refl, refl, refl) }

  accepted_on : (k : ℕ) (words : List ℕ) → On view done (followed (outcome (accepted k) words))
  accepted_on k words = record { exact = (refl, refl); kept = λ wrong. absurd (wrong refl) }

  refused_on : (m : ℕ) → eqb m 0 ≡ false → On view (shows m 0) (followed (leaves m n rows))
  refused_on m e = record { exact = (refl, refl); kept = λ _. (refl, refl, ap (λ (b : Bool). cond b (recounted five_words w (outcome (accepted n) rows) counts) counts) e) }

  -- its checks one after the other; after 11, the inner update
  module _ (e : Event) (inner : Outcome Answer) where
    abbrev stepped : Counted
    stepped =
        cond (is_good w (capacity rows) (row_at rows) n)
        (cond (not (differ counts (counts_of five_words w rows n))) (followed inner) (kept not_in_order)) (kept not_in_order)

    abbrev checked : Counted
    checked =
        cond (leb ports (length counts))
        (cond (eqb (fault_of w n e).number 0) stepped (counted (fault_of w n e) rows counts)) (kept no_room)

    form : (eqb (fault_of w n e).number 0 ≡ true → is_good w (capacity rows) (row_at rows) n ≡ true → outcome_on five_words w rows n e ≡ inner)
        → counted_on five_words w rows n counts e ≡ checked
    unfolding counted_on first_check
    form is =
        by (way (leb ports (length counts))) (way (eqb (fault_of w n e).number 0)) (way (is_good w (capacity rows) (row_at rows) n))
        (way (differ counts (counts_of five_words w rows n)))
      where
        by : (leb ports (length counts) ≡ true) ⊎ (leb ports (length counts) ≡ false)
            → (eqb (fault_of w n e).number 0 ≡ true) ⊎ (eqb (fault_of w n e).number 0 ≡ false)
            → (is_good w (capacity rows) (row_at rows) n ≡ true) ⊎ (is_good w (capacity rows) (row_at rows) n ≡ false)
            → (differ counts (counts_of five_words w rows n) ≡ true) ⊎ (differ counts (counts_of five_words w rows n) ≡ false)
            → counted_on five_words w rows n counts e ≡ checked
        by (inr a) b c d = rw a
        by (inl a) (inr b) c d =
            rw (a, b) (ap (λ (t : Bool). cond t (followed (outcome_on five_words w rows n e)) (counted (fault_of w n e) rows counts)) b)
        by (inl a) (inl b) (inr c) d = rw (a, b, c)
        by (inl a) (inl b) (inl c) (inl d) = rw (a, b, c, d)
        by (inl a) (inl b) (inl c) (inr d) = rw (a, b, c, d) (ap followed (is b c))

    step_on : (rest : Verdict) → (GoodOrder w (capacity rows) (row_at rows) n → On view rest (followed inner))
        → On view (step_checks w rows n counts rest) stepped
    step_on rest next =
        on_order_then view w rows n _
        (λ b. cond b (cond (not (differ counts (counts_of five_words w rows n))) (followed inner) (kept not_in_order)) (kept not_in_order))
        (λ order.
        on_test view (not (differ counts (counts_of five_words w rows n))) _ (tells_stale w rows n counts order) not_in_order 0 rest
        (λ b. cond b (followed inner) (kept not_in_order)) (next order) (kept_on not_in_order))
        (kept_on not_in_order)

    room_on : (rest : Verdict) → On view rest (cond (eqb (fault_of w n e).number 0) stepped (counted (fault_of w n e) rows counts))
        → On view (count_room counts rest) checked
    room_on rest next =
        on_test view (leb ports (length counts)) _ (tells_le ports (length counts)) no_room 0 rest
        (λ b. cond b (cond (eqb (fault_of w n e).number 0) stepped (counted (fault_of w n e) rows counts)) (kept no_room)) next (kept_on no_room)

  -- a fault of the arguments is a refusal that keeps everything
  fault_on : (next : Counted) (m : ℕ) → 0 < m → On view (shows m 0) (cond (eqb m 0) next (kept m))
  fault_on next m some = rw (ne_eqb m 0 (λ e. omega arith)) (kept_on m)

  -- "4, 5" on the arguments, and then what follows for a valid prefix
  module _ (value len : ℕ) (fits : value < 2 ^ w) (rest : Verdict) (answer : ℕ → Counted) (after : ℕ) where
    on_prefix : (Valid w value len → On view rest (answer after)) → ((m : ℕ) → 0 < m → On view (shows m 0) (answer m))
        → On view (prefix_checks w 0 value len rest) (answer (prefix_fault w value len after))
    on_prefix next shown =
        on_unless_then view (leb len w) _ (tells_le len w) long_prefix 0 _ answer _
        (λ short.
        on_unless_then view (clear w value len) _ (tells_itself _) spare_bits 0 _ answer _
        (λ zeros. next (record { fits = fits; short = leb-true len w short; zeros = eqb-true (value % span w len) 0 zeros }))
        (shown spare_bits (omega arith)))
        (shown long_prefix (omega arith))

-- in a table in good order, the search for a prefix tells whether it is held
tells_held : (w : ℕ) (rows : List ℕ) (n : ℕ) (q : Route) → Valid w q.value q.len → GoodOrder w (capacity rows) (row_at rows) n
    → Tells (is_held w (row_at rows) n q) (NotHeld w rows n q.value q.len)
tells_held w rows n q valid good =
    let bits = prefix_bits w q.value q.len in
    let is : (S : Routes) → GoodFor w (capacity rows) (row_at rows) n S → is_held w (row_at rows) n q ≡ ltb 0 (S bits) = λ S g. held_is w (row_at rows) n S q g.placed valid in
    record {
      fine = λ e none. omega (arith, none good.0 good.1, ltb-true 0 (good.0 bits) (sym (is good.0 good.1) ∙ e));
      wrong = λ e S g. omega (arith, ltb-false 0 (S bits) (sym (is S g) ∙ e));
    }

module _ (w : ℕ) (rows : List ℕ) (n : ℕ) (counts : List ℕ) where
  announced_on : (q : Route) → q.value < 2 ^ w
      → On (booking n rows counts) (update_checks w rows n counts (single (announcing q))) (counted_on five_words w rows n counts (single (announcing q)))
  unfolding announce_into announce_in
  announced_on q fits =
      subst (On v (update_checks w rows n counts e)) (sym (form w rows n counts e inner (λ a g. rw (a, g))))
      (room_on w rows n counts e inner _
      (on_prefix w rows n counts q.value q.len fits _ answer _
      (λ valid.
      on_unless_then v (is_port q.port) _ (tells_port q.port) wrong_port 0 _ answer 0
      (λ _. step_on w rows n counts e inner _ (λ order.
      on_either held (ltb n (capacity rows)) (NotHeld w rows n q.value q.len) (capacity rows ≤ n) (tells_held w rows n q valid order) (tells_lt n (capacity rows))))
      (kept_on w rows n counts wrong_port))
      (fault_on w rows n counts (stepped w rows n counts e inner))))
    where
      v : View
      v = booking n rows counts

      e : Event
      e = single (announcing q)

      words : List ℕ
      words = announced_words five_words w rows n q

      held : Bool
      held = is_held w (row_at rows) n q

      inner : Outcome Answer
      inner = cond held (outcome (accepted n) words) (cond (ltb n (capacity rows)) (outcome (accepted (n + 1)) words) (leaves no_room n rows))

      answer : ℕ → Counted
      answer f = cond (eqb f 0) (stepped w rows n counts e inner) (kept w rows n counts f)

      -- 9 where both tests fail
      on_either : (a b : Bool) (A B : Type 0) → Tells a A → Tells b B
          → On v (refuse no_room 0 (A × B) done)
          (followed w rows n counts (cond a (outcome (accepted n) words) (cond b (outcome (accepted (n + 1)) words) (leaves no_room n rows))))
      on_either true b A B s t = let x = accepted_on w rows n counts n words in record { exact = inr (λ two. s.fine refl two.0, x.exact); kept = x.kept }
      on_either false true A B s t =
          let y = accepted_on w rows n counts (n + 1) words in record { exact = inr (λ two. t.fine refl two.1, y.exact); kept = y.kept }
      on_either false false A B s t =
          let z = refused_on w rows n counts no_room refl in record { exact = inl ((s.wrong refl, t.wrong refl), z.exact); kept = z.kept }

  withdrawn_on : (value len : ℕ) → value < 2 ^ w
      → On (booking n rows counts) (update_checks w rows n counts (single (withdrawing value len))) (counted_on five_words w rows n counts (single (withdrawing value len)))
  unfolding withdraw_into withdraw_in
  withdrawn_on value len fits =
      subst (On v (update_checks w rows n counts e)) (sym (form w rows n counts e inner (λ a g. rw (a, g))))
      (room_on w rows n counts e inner _
      (on_prefix w rows n counts value len fits _ answer 0
      (λ valid. step_on w rows n counts e inner _ (λ order.
      on_test v held _ (tells_held w rows n q valid order) not_held 0 done
      (λ b. followed w rows n counts (cond b done_with (leaves not_held n rows))) (accepted_on w rows n counts (n - 1) (withdrawn five_words w rows n q))
      (refused_on w rows n counts not_held refl)))
      (fault_on w rows n counts (stepped w rows n counts e inner))))
    where
      v : View
      v = booking n rows counts

      e : Event
      e = single (withdrawing value len)

      q : Route
      q = prefix_only value len

      held : Bool
      held = is_held w (row_at rows) n q

      done_with : Outcome Answer
      done_with = outcome (accepted (n - 1)) (withdrawn five_words w rows n q)

      inner : Outcome Answer
      inner = cond held done_with (leaves not_held n rows)

      answer : ℕ → Counted
      answer f = cond (eqb f 0) (stepped w rows n counts e inner) (kept w rows n counts f)

  message_on : w % 8 ≡ 0 → (bytes : List ℕ) (port : ℕ) → Bytes bytes
      → On (booking n rows counts) (update_checks w rows n counts (message bytes port)) (counted_on five_words w rows n counts (message bytes port))
  unfolding apply_into applied_to
  message_on whole bytes port all =
      subst (On v (update_checks w rows n counts e)) (sym (form w rows n counts e inner plain))
      (room_on w rows n counts e inner _
      (on_message v (λ a. answer a (is_port port)) at_place w bytes _
      (on_test_then v (is_port port) _ (tells_port port) wrong_port 0 _ (answer (accepted 0))
      (λ ported. step_on w rows n counts e inner _ (λ order.
      on_test v few _ (tells_many w whole bytes all port (ltb-true 0 port (both (ltb 0 port) (leb port last_port) ported).0) rows n order) no_room 0 done
      (λ b. followed w rows n counts (cond b done_with (leaves no_room n rows))) (accepted_on w rows n counts t.count t.words)
      (refused_on w rows n counts no_room refl)))
      (kept_on w rows n counts wrong_port))))
    where
      v : View
      v = booking n rows counts

      e : Event
      e = message bytes port

      t : Table
      t = ran five_words w (record { words = rows; count = n }) (calls_for port (withdrawn_in w bytes) (announced_in w bytes))

      done_with : Outcome Answer
      done_with = done_as t

      few : Bool
      few = leb (final_count w (row_at rows) n (withdrawn_in w bytes) (announced_in w bytes)) (capacity rows)

      inner : Outcome Answer
      inner = cond few done_with (leaves no_room n rows)

      -- what the message and its port are refused with
      fault : Answer → Bool → Answer
      fault a b = cond (eqb a.number 0) (cond b (accepted n) (keeping wrong_port n)) (keeping_at a.number a.place n)

      answer : Answer → Bool → Counted
      answer a b = cond (eqb (fault a b).number 0) (stepped w rows n counts e inner) (counted (fault a b) rows counts)

      at_place : (m p : ℕ) → 0 < m → On v (shows m p) (answer (refused m p) (is_port port))
      at_place m p some = by (eqb m 0) (ne_eqb m 0 (λ z. omega arith))
        where
          shown : Counted
          shown = counted (keeping_at m p n) rows counts

          first : Bool → Answer
          first b = cond b (cond (is_port port) (accepted n) (keeping wrong_port n)) (keeping_at m p n)

          by : (b : Bool) → b ≡ false → On v (shows m p) (cond (eqb (first b).number 0) (stepped w rows n counts e inner) (counted (first b) rows counts))
          by true wrong = absurd (true≢false wrong)
          by false _ =
              subst (λ (b : Bool). On v (shows m p) (cond b (stepped w rows n counts e inner) shown)) (sym (ne_eqb m 0 (λ z. omega arith)))
              (record { exact = (refl, refl); kept = λ _. (refl, refl, refl) })

      plain : eqb (fault_of w n e).number 0 ≡ true → is_good w (capacity rows) (row_at rows) n ≡ true → outcome_on five_words w rows n e ≡ inner
      plain a g = by (way (eqb (message_check w bytes).number 0)) (way (is_port port)) a
        where
          by : (eqb (message_check w bytes).number 0 ≡ true) ⊎ (eqb (message_check w bytes).number 0 ≡ false) → (is_port port ≡ true) ⊎ (is_port port ≡ false)
              → eqb (fault_of w n e).number 0 ≡ true → outcome_on five_words w rows n e ≡ inner
          by (inl c) (inl d) z = rw (c, d, g)
          by (inl c) (inr d) z = let y : eqb wrong_port 0 ≡ true = rw (c, d) at z in absurd (true≢false (sym y))
          by (inr c) d z = let y : eqb (message_check w bytes).number 0 ≡ true = rw c at z in absurd (true≢false (sym y ∙ c))

pub update_refuses : (w : ℕ) → w % 8 ≡ 0 → (rows : List ℕ) (n : ℕ) (counts : List ℕ) (e : Event) → EventFits w e
    → On (booking n rows counts) (update_checks w rows n counts e) (counted_on five_words w rows n counts e)
update_refuses w whole rows n counts (single (announcing q)) fits = announced_on w rows n counts q fits
update_refuses w whole rows n counts (single (withdrawing value len)) fits = withdrawn_on w rows n counts value len fits
update_refuses w whole rows n counts (message bytes port) fits = message_on w rows n counts whole bytes port fits

-- lent the counts of its own table, an update is refused and accepted as it is without counts, and leaves the same rows

pub fresh_long : (rows : List ℕ) (n : ℕ) → length (counts_of five_words 32 rows n) ≡ ports
fresh_long rows n = length_counts 32 (row_at rows) n

pub fresh_is_plain : (rows : List ℕ) (n : ℕ) (e : Event) (S : Routes) → GoodFor 32 (capacity rows) (row_at rows) n S
    → let o : Counted = counted_on five_words 32 rows n (counts_of five_words 32 rows n) e in
    (o.answer ≡ (outcome_on five_words 32 rows n e).answer) × (o.rows ≡ (outcome_on five_words 32 rows n e).lent)
fresh_is_plain rows n e S good =
    let counts = counts_of five_words 32 rows n in
    in_step_is_plain five_words 32 (record { table = record { words = rows; count = n }; counts = counts }) S e (omega (arith, fresh_long rows n))
    (take_all ports counts (omega (arith, fresh_long rows n))) good
