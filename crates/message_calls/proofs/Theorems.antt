-- Messages on a table: they are their calls, leave the final set, and are refused whole. Assumes nothing.
use mathlib.Core.Path.{◌≡◌, refl, sym, ap, ap₂, ◌∙◌, subst, fun_ext}
use mathlib.Core.Logic.{◌⊎◌, inl, inr}
use mathlib.Core.Bool.{Bool, true, false, cond}
use mathlib.Core.List.{List, [], ◌∷◌}
use Prim.Native.Nat.{ℕ, ◌%◌, ◌≤◌, ◌<◌}
use native.Mathlib.Omega.{arith}
use lib.Dec.{eqb, leb, ltb}
use lib.ListN.{length}
use borrow.Author.Tests.{eqb-true, eqb-false, eq-eqb, ne_eqb, leb-true, leb-false, le-leb, lt-leb, ltb-true}
use Rattle.promise.specs.Over.{Outcome, outcome}
use Rattle.lists.proofs.Tests.{way, both}
use Rattle.bits.specs.Bits.{Bits, same}
use Rattle.trie.specs.Routes.{Routes, upd}
use Rattle.prefix.specs.declared.Prefix.{Prefix}
use Rattle.refusals.specs.Refusals.{no_room, not_in_order, wrong_port, keeping_at}
use Rattle.refusals.specs.declared.Answer.{Answer}
use Rattle.routes.specs.Bounds.{last_port}
use Rattle.routes.specs.Check.{is_port}
use Rattle.octets.specs.Bytes.{Bytes}
use Rattle.octets.proofs.Bytes.{bytes_take, bytes_drop}
use Rattle.table_rules.specs.Rows.{Layout, Mem, Stores}
use Rattle.table_rules.specs.Holds.{GoodFor}
use Rattle.table_rules.specs.Check.{is_good}
use Rattle.table_rules.proofs.Good.{check_is_good}
use Rattle.table_update.specs.Calls.{leaves}
use Rattle.table_update.specs.History.{Table, after, is_accepted, ran, call_prefix, call_port, AllAccepted}
use Rattle.table_update.proofs.History.{call_is}
use Rattle.message_rules.specs.Message.{withdrawn_at, withdrawn_size, announced_at, withdrawn_part, announced_part, withdrawn_in, announced_in, AllValid}
use Rattle.message_rules.specs.Check.{message_check}
use Rattle.message_rules.proofs.Walk.{valid_prefixes}
use Rattle.message_calls.specs.Named.{is_named, remaining, withdrawals, announcements, final_count, final_set, Size}
use Rattle.message_calls.specs.Apply.{done_as, applied_to, apply_into}
use Rattle.message_calls.specs.History.{Event, single, message, calls_of, port_left, after_event, calls_in, ran_events, flattened}
use Rattle.message_calls.specs.Theorems.{AppliedIsCalls, AppliedHolds, AppliedWhole, FullExactly, MessageHistoryIs, EventIs}
use Rattle.message_calls.proofs.Final.{final_size}
use Rattle.message_calls.proofs.Sized.{size_one}
use Rattle.message_calls.proofs.Running.{TableGood, ran_append}
use Rattle.message_calls.proofs.Applied.{applied_calls, applied_each, applied_good}

-- which way each check of a message on a table went

module _ (L : Layout (List ℕ)) (w : ℕ) (bytes : List ℕ) (port : ℕ) (words : List ℕ) (n : ℕ) where
  abbrev gone : List Prefix
  gone = withdrawn_in w bytes

  abbrev come : List Prefix
  come = announced_in w bytes

  abbrev done : Outcome Answer
  done = done_as (ran L w (record { words = words; count = n }) (calls_of w bytes port))

  -- every check passed
  pub record Passed : Type 0 where
    pub checked : (message_check w bytes).number ≡ 0
    pub ported : is_port port ≡ true
    pub good : is_good w (L.room words) (L.get words) n ≡ true
    pub fits : final_count w (L.get words) n gone come ≤ L.room words

  pub record Kept (o : Outcome Answer) : Type 0 where
    pub words_are : o.lent ≡ words
    pub count_is : o.answer.count ≡ n
    pub number_is : o.answer.number ≡ 0 → ⊥

  module _ (a b c d : Bool) where
    abbrev by_tests : Outcome Answer
    by_tests =
        cond a (cond b (cond c (cond d done (leaves no_room n words)) (leaves not_in_order n words)) (leaves wrong_port n words))
        (outcome (keeping_at (message_check w bytes).number (message_check w bytes).place n) words)

  is_tests : apply_into L w bytes port words n
      ≡ by_tests (eqb (message_check w bytes).number 0) (is_port port) (is_good w (L.room words) (L.get words) n)
      (leb (final_count w (L.get words) n gone come) (L.room words))
  unfolding apply_into applied_to
  is_tests = refl

  pub apply_done : Passed → apply_into L w bytes port words n ≡ done
  apply_done p =
      is_tests
      ∙ rw (eq-eqb (message_check w bytes).number 0 p.checked, p.ported, p.good, le-leb (final_count w (L.get words) n gone come) (L.room words) p.fits)

  pub apply_either : Passed ⊎ Kept (apply_into L w bytes port words n)
  apply_either =
      by (way (eqb (message_check w bytes).number 0)) (way (is_port port)) (way (is_good w (L.room words) (L.get words) n))
      (way (leb (final_count w (L.get words) n gone come) (L.room words)))
    where
      kept : (o : Outcome Answer) → apply_into L w bytes port words n ≡ o → Kept o → Kept (apply_into L w bytes port words n)
      kept o e k = subst Kept (sym e) k

      by : (eqb (message_check w bytes).number 0 ≡ true) ⊎ (eqb (message_check w bytes).number 0 ≡ false)
          → (is_port port ≡ true) ⊎ (is_port port ≡ false)
          → (is_good w (L.room words) (L.get words) n ≡ true) ⊎ (is_good w (L.room words) (L.get words) n ≡ false)
          → (leb (final_count w (L.get words) n gone come) (L.room words) ≡ true) ⊎ (leb (final_count w (L.get words) n gone come) (L.room words) ≡ false)
          → Passed ⊎ Kept (apply_into L w bytes port words n)
      by (inr a) b c d =
          inr (kept (outcome (keeping_at (message_check w bytes).number (message_check w bytes).place n) words) (is_tests ∙ rw a)
          (record { words_are = refl; count_is = refl; number_is = eqb-false (message_check w bytes).number 0 a }))
      by (inl a) (inr b) c d =
          inr (kept (leaves wrong_port n words) (is_tests ∙ rw (a, b)) (record { words_are = refl; count_is = refl; number_is = λ z. omega arith }))
      by (inl a) (inl b) (inr c) d =
          inr (kept (leaves not_in_order n words) (is_tests ∙ rw (a, b, c)) (record { words_are = refl; count_is = refl; number_is = λ z. omega arith }))
      by (inl a) (inl b) (inl c) (inr d) =
          inr (kept (leaves no_room n words) (is_tests ∙ rw (a, b, c, d)) (record { words_are = refl; count_is = refl; number_is = λ z. omega arith }))
      by (inl a) (inl b) (inl c) (inl d) =
          inl (record {
            checked = eqb-true (message_check w bytes).number 0 a;
            ported = b;
            good = c;
            fits = leb-true (final_count w (L.get words) n gone come) (L.room words) d;
          })

  pub apply_passed : (apply_into L w bytes port words n).answer.number ≡ 0 → Passed
  apply_passed z = by apply_either
    where
      by : Passed ⊎ Kept (apply_into L w bytes port words n) → Passed
      by (inl p) = p
      by (inr k) = absurd (k.number_is z)

pub applied_whole : (L : Layout (List ℕ)) (w : ℕ) → AppliedWhole L w
applied_whole L w bytes port words n wrong = by (apply_either L w bytes port words n)
  where
    by : Passed L w bytes port words n ⊎ Kept L w bytes port words n (apply_into L w bytes port words n)
        → ((apply_into L w bytes port words n).lent ≡ words) × ((apply_into L w bytes port words n).answer.count ≡ n)
    by (inl p) = absurd (wrong (ap (λ (o : Outcome Answer). o.answer.number) (apply_done L w bytes port words n p)))
    by (inr k) = (k.words_are, k.count_is)

-- what the parts of a message of bytes hold is valid

module _ (w : ℕ) (whole : w % 8 ≡ 0) (bytes : List ℕ) (all : Bytes bytes) where
  withdrawn_valid : AllValid w (withdrawn_in w bytes)
  withdrawn_valid =
      valid_prefixes w (withdrawn_part bytes) whole (bytes_take (withdrawn_size bytes) _ (bytes_drop bytes withdrawn_at all)) (length (withdrawn_part bytes)) 0

  announced_valid : AllValid w (announced_in w bytes)
  announced_valid = valid_prefixes w (announced_part bytes) whole (bytes_drop bytes (announced_at bytes) all) (length (announced_part bytes)) 0

-- the final set of a message on a table in good order has the size that is counted
pub final_sized : (w : ℕ) → w % 8 ≡ 0 → (capacity : ℕ) (M : Mem) (n : ℕ) (S : Routes) → GoodFor w capacity M n S → (bytes : List ℕ) → Bytes bytes
    → (port : ℕ) → 0 < port
    → Size (final_set w port (withdrawn_in w bytes) (announced_in w bytes) S) (final_count w M n (withdrawn_in w bytes) (announced_in w bytes))
final_sized w whole capacity M n S good bytes all port some =
    final_size w capacity M n S good (withdrawn_in w bytes) (announced_in w bytes) (withdrawn_valid w whole bytes all) (announced_valid w whole bytes all) port some

-- an accepted message

module _ (L : Layout (List ℕ)) (w : ℕ) (st : Stores w L) (whole : w % 8 ≡ 0) (bytes : List ℕ) (port : ℕ) (t : Table) (all : Bytes bytes)
    (passed : Passed L w bytes port t.words t.count) (S : Routes) (good : TableGood L w t S) where
  abbrev ws : List Prefix
  ws = withdrawn_in w bytes

  abbrev ns : List Prefix
  ns = announced_in w bytes

  some : 0 < port
  some = ltb-true 0 port (both (ltb 0 port) (leb port last_port) passed.ported).0

  most : port ≤ last_port
  most = leb-true port last_port (both (ltb 0 port) (leb port last_port) passed.ported).1

  abbrev skip : Prefix → Bool
  skip p = is_named p ns

  pub passed_each : AllAccepted L w (ran L w t (withdrawals (remaining ws ns))) (announcements port ns)
  passed_each =
      applied_each L w st port some most t S good ws ns (withdrawn_valid w whole bytes all) (announced_valid w whole bytes all) skip (λ p v. refl) passed.fits

  pub passed_good : TableGood L w (ran L w t (calls_of w bytes port)) (final_set w port ws ns S)
  passed_good =
      subst (λ (u : Table). TableGood L w u (final_set w port ws ns S))
      (sym (applied_calls L w st port some most t S good ws ns (withdrawn_valid w whole bytes all) (announced_valid w whole bytes all) skip (λ p v. refl) passed.fits))
      (applied_good L w st port some most t S good ws ns (withdrawn_valid w whole bytes all) (announced_valid w whole bytes all) skip (λ p v. refl) passed.fits)

-- what it leaves
after_message : (L : Layout (List ℕ)) (w : ℕ) (bytes : List ℕ) (port : ℕ) (t : Table) → Passed L w bytes port t.words t.count
    → after_event L w t (message bytes port) ≡ ran L w t (calls_of w bytes port)
after_message L w bytes port t p =
    ap (λ (o : Outcome Answer). record { words = o.lent; count = o.answer.count }) (apply_done L w bytes port t.words t.count p)

pub applied_is_calls : (L : Layout (List ℕ)) (w : ℕ) → Stores w L → w % 8 ≡ 0 → AppliedIsCalls L w
applied_is_calls L w st whole bytes port t all z =
    let p = apply_passed L w bytes port t.words t.count z in
    let order = (check_is_good w (L.room t.words) (L.get t.words) t.count).0 p.good in
    record { left = after_message L w bytes port t p; each = passed_each L w st whole bytes port t all p order.0 order.1 }

pub applied_holds : (L : Layout (List ℕ)) (w : ℕ) → Stores w L → w % 8 ≡ 0 → AppliedHolds L w
applied_holds L w st whole bytes port words n S all good z =
    let t : Table = record { words = words; count = n } in
    let p = apply_passed L w bytes port words n z in
    subst (λ (u : Table). TableGood L w u (final_set w port (withdrawn_in w bytes) (announced_in w bytes) S)) (sym (after_message L w bytes port t p))
    (passed_good L w st whole bytes port t all p S good)

-- 9 exactly

pub full_exactly : (L : Layout (List ℕ)) (w : ℕ) → Stores w L → w % 8 ≡ 0 → FullExactly L w
full_exactly L w st whole bytes port words n S all checked ported good =
    (m, record { size = size; one = λ k s. size_one T k m s size; exactly = (λ e. above (way fit) e, λ h. nine h) })
  where
    m : ℕ
    m = final_count w (L.get words) n (withdrawn_in w bytes) (announced_in w bytes)

    T : Routes
    T = final_set w port (withdrawn_in w bytes) (announced_in w bytes) S

    fit : Bool
    fit = leb m (L.room words)

    size : Size T m
    size =
        final_sized w whole (L.room words) (L.get words) n S good bytes all port
        (ltb-true 0 port (both (ltb 0 port) (leb port last_port) ported).0)

    is_good_lem : is_good w (L.room words) (L.get words) n ≡ true
    is_good_lem = (check_is_good w (L.room words) (L.get words) n).1 (S, good)

    answer : (b : Bool) → fit ≡ b
        → apply_into L w bytes port words n ≡ cond b (done L w bytes port words n) (leaves no_room n words)
    answer b e = is_tests L w bytes port words n ∙ rw (eq-eqb (message_check w bytes).number 0 checked, ported, is_good_lem, e)

    above : (fit ≡ true) ⊎ (fit ≡ false) → (apply_into L w bytes port words n).answer.number ≡ no_room → L.room words < m
    above (inl e) z =
        let w9 : ◌≡◌ {A = ℕ} 0 no_room = sym (ap (λ (o : Outcome Answer). o.answer.number) (answer true e)) ∙ z in
        absurd (omega (arith, w9))
    above (inr e) z = leb-false m (L.room words) e

    nine : L.room words < m → (apply_into L w bytes port words n).answer.number ≡ no_room
    nine h = ap (λ (o : Outcome Answer). o.answer.number) (answer false (lt-leb m (L.room words) h))

-- histories

after_is : (L : Layout (List ℕ)) (w : ℕ) (t : Table) (e : Event) → after_event L w t e ≡ ran L w t (calls_in L w t e)
unfolding ran
after_is L w t (single c) = refl
after_is L w t (message bytes port) = by (apply_either L w bytes port t.words t.count)
  where
    o : Outcome Answer
    o = apply_into L w bytes port t.words t.count

    by : Passed L w bytes port t.words t.count ⊎ Kept L w bytes port t.words t.count o
        → after_event L w t (message bytes port) ≡ ran L w t (cond (eqb o.answer.number 0) (calls_of w bytes port) [])
    by (inl p) =
        let z : eqb o.answer.number 0 ≡ true = eq-eqb o.answer.number 0 (ap (λ (x : Outcome Answer). x.answer.number) (apply_done L w bytes port t.words t.count p)) in
        after_message L w bytes port t p ∙ sym (ap (λ (b : Bool). ran L w t (cond b (calls_of w bytes port) [])) z)
    by (inr k) =
        let z : eqb o.answer.number 0 ≡ false = ne_eqb o.answer.number 0 k.number_is in
        ap₂ (λ (ws : List ℕ) (m : ℕ). record { words = ws; count = m }) k.words_are k.count_is
        ∙ sym (ap (λ (b : Bool). ran L w t (cond b (calls_of w bytes port) [])) z)

pub message_history_is : (L : Layout (List ℕ)) (w : ℕ) → MessageHistoryIs L w
unfolding ran_events flattened ran
message_history_is L w t [] = refl
message_history_is L w t (e ∷ es) =
    message_history_is L w (after_event L w t e) es
    ∙ ap (λ (u : Table). ran L w u (flattened L w (after_event L w t e) es)) (after_is L w t e)
    ∙ sym (ran_append L w t (calls_in L w t e) (flattened L w (after_event L w t e) es))

pub event_is : (L : Layout (List ℕ)) (w : ℕ) → Stores w L → w % 8 ≡ 0 → EventIs L w
event_is L w st whole t S (single c) fits good =
    subst (TableGood L w (after L w t c)) (fun_ext (λ q. by (is_accepted L w t c) q)) (call_is L w st t S c fits good)
  where
    by : (b : Bool) (q : Bits) → cond b (upd S (call_prefix w c) (call_port c)) S q ≡ cond b (cond (same q (call_prefix w c)) (call_port c) (S q)) (S q)
    by true q = refl
    by false q = refl
event_is L w st whole t S (message bytes port) fits good = by (apply_either L w bytes port t.words t.count)
  where
    o : Outcome Answer
    o = apply_into L w bytes port t.words t.count

    by : Passed L w bytes port t.words t.count ⊎ Kept L w bytes port t.words t.count o
        → TableGood L w (after_event L w t (message bytes port)) (λ q. cond (eqb o.answer.number 0) (port_left w (message bytes port) q (S q)) (S q))
    by (inl p) =
        let z : eqb o.answer.number 0 ≡ true = eq-eqb o.answer.number 0 (ap (λ (x : Outcome Answer). x.answer.number) (apply_done L w bytes port t.words t.count p)) in
        subst (λ (b : Bool). TableGood L w (after_event L w t (message bytes port)) (λ q. cond b (port_left w (message bytes port) q (S q)) (S q))) (sym z)
        (subst (λ (u : Table). TableGood L w u (final_set w port (withdrawn_in w bytes) (announced_in w bytes) S)) (sym (after_message L w bytes port t p))
        (passed_good L w st whole bytes port t fits p S good))
    by (inr k) =
        let z : eqb o.answer.number 0 ≡ false = ne_eqb o.answer.number 0 k.number_is in
        subst (λ (b : Bool). TableGood L w (after_event L w t (message bytes port)) (λ q. cond b (port_left w (message bytes port) q (S q)) (S q))) (sym z)
        (subst (λ (u : Table). TableGood L w u S) (sym (ap₂ (λ (ws : List ℕ) (m : ℕ). record { words = ws; count = m }) k.words_are k.count_is)) good)
