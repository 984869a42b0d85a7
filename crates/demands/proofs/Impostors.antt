-- The impostors break the demands: each at a history of a call or two, or at a build, that is written out. Assumes nothing.
use mathlib.Core.Path.{◌≡◌, refl, sym, ap, subst, fun_ext, ◌∙◌}
use mathlib.Core.Logic.{◌⊎◌, inl, inr}
use mathlib.Core.Bool.{Bool, true, false, cond, ◌||◌, false≢true}
use mathlib.Core.List.{List, [], ◌∷◌}
use Prim.Native.Nat.{ℕ, zero, suc, ◌+◌, ◌^◌, ◌<◌, ◌≤◌}
use native.Mathlib.Omega.{arith}
use native.Mathlib.Nat.{zero-add}
use lib.Dec.{eqb}
use lib.ListN.{length, get_or, replicate}
use borrow.Author.Tests.{lt-ltb}
use Rattle.promise.specs.Over.{Outcome, outcome, over}
use Rattle.lists.proofs.Tests.{either, lt_or_le}
use Rattle.lists.proofs.Below.{number_zero}
use Rattle.bits.specs.Bits.{Bits, bits, same}
use Rattle.bits.proofs.Bits.{same_refl, same_eq}
use Rattle.prefix.specs.Prefixes.{prefix}
use Rattle.trie.specs.Routes.{Routes, no_routes, side}
use Rattle.trie.specs.Scan.{longest, plain_scan, or_else, scan}
use Rattle.trie.proofs.Scan.{scan_none}
use Rattle.refusals.specs.Refusals.{accepted, found as answered}
use Rattle.refusals.specs.Reply.{Reply, looked, replied}
use Rattle.lists.specs.Numbered.{list_of}
use Rattle.routes.specs.Routes.{route, route_at, route_count, Words}
use Rattle.routes.specs.Scan.{scan_of}
use Rattle.routes.specs.declared.Route.{Route}
use Rattle.table_rows.specs.Words.{capacity, row_at, five_words}
use Rattle.table_rules.specs.Rows.{row_bits}
use Rattle.table_rules.specs.Holds.{GoodFor}
use Rattle.table_rules.proofs.Good.{good_unique}
use Rattle.table_update.specs.Calls.{build_into}
use Rattle.table_update.specs.History.{announcing, withdrawing, Table}
use Rattle.message_rules.specs.Message.{withdrawn_in, announced_in}
use Rattle.message_calls.specs.Once.{among, Differ}
use Rattle.message_calls.specs.Named.{has_bits, final_set, final_count, Size}
use Rattle.message_calls.specs.History.{Event, single, message, EventFits}
use Rattle.count_rules.specs.Tally.{ports, addresses}
use Rattle.count_rules.specs.Counted.{counts_of}
use Rattle.count_rules.proofs.Tally.{addresses_stretch}
use Rattle.count_rules.proofs.OfTable.{count_is}
use Rattle.refusals.specs.declared.Answer.{Answer}
use Rattle.message_calls.proofs.Once.{no_more}
use Rattle.message_calls.proofs.Sized.{good_size, size_le}
use Rattle.message_calls.proofs.Theorems.{final_sized}
use Rattle.image_rules.specs.Image.{passed}
use Rattle.image_build.specs.Build.{Left, list_routes, build_image}
use Rattle.segment_rules.specs.Theorems.{reads_of}
use Rattle.segment_rules.specs.Build.{Stores, build_segments}
use Rattle.maftehon.specs.Reply.{Imaged, Segmented}
use Rattle.demands.specs.Boundary.{Boundary, result, read_count, Ends}
use Rattle.demands.specs.History.{Step, left, empty_table, port_since, held_by}
use Rattle.demands.specs.Demands.{scanned_all, CountsAre, Demands}
use Rattle.demands.specs.Checks.{NoPort, NotHeld}
use Rattle.demands.specs.CountChecks.{StaleCounts, update_checks}
use Rattle.demands.specs.MessageChecks.{TooMany}
use Rattle.demands.specs.Impostors.{AppliesAnnouncementsAlone, StopsAtTheFirst, IgnoresAnnouncements, IgnoresWithdrawals, FixedPort, FixedPortOfImage, FixedPortOfSegments, FixedElements, FixedElementsOfSegments, ImpostorsStopped}
use Rattle.demands.proofs.Decided.{demand_1_decides}
use Rattle.demands.proofs.OfTables.{build_refuses}
use Rattle.demands.proofs.OfImages.{image_build_refuses}
use Rattle.demands.proofs.OfSegments.{segments_build_refuses}
use Rattle.demands.proofs.OfCounts.{update_refuses, fresh_long, fresh_is_plain}
use Rattle.demands.proofs.Messages.{whole_withdrawn, whole_bytes, whole_checked, whole_withdraws, whole_announces, two_announced, two_bytes, two_withdraws, two_announces, two_applied, checked_through}
use Rattle.demands.proofs.Roomy.{zero_stores, zeros_roomy}
use Rattle.demands.proofs.Accepted.{whole_space, no_routes_built, whole_space_built, no_routes_imaged, whole_space_imaged, no_routes_segmented, whole_space_segmented, no_call_refuses_all}

-- the whole space to a port
abbrev whole : ℕ → Route
whole port = route 0 0 port

abbrev zeros : List ℕ
zeros = replicate 5 0

abbrev Good : Table → Routes → Type 0
Good t S = GoodFor 32 (capacity t.words) (row_at t.words) t.count S

-- the counts of a table, which every update below is lent
abbrev fresh : Table → List ℕ
fresh t = counts_of five_words 32 t.words t.count

-- there are 4,095 of them, and in a table in good order none is stale
roomy : (t : Table) → length (fresh t) < ports → ⊥
roomy t h = omega (arith, fresh_long t.words t.count)

in_step : (t : Table) (S : Routes) → Good t S → StaleCounts 32 t.words t.count (fresh t) → ⊥
in_step t S good stale =
    let x = stale S good in
    x.2 (count_is 32 (capacity t.words) (row_at t.words) t.count S good (omega arith) x.0 x.1)

-- what the checks of an announcement, or of a withdrawal, of the whole space say of a table in good order that is lent with its counts
announce_fine : (t : Table) (S : Routes) (counts : List ℕ) (port : ℕ) → Good t S → (length counts < ports → ⊥)
    → (StaleCounts 32 t.words t.count counts → ⊥) → 0 < port → port < 4095 → (0 < S []) ⊎ (t.count < capacity t.words)
    → update_checks 32 t.words t.count counts (single (announcing (whole port))) 0 0
unfolding bits
announce_fine t S counts port good long step some few room =
    inr (long, inr (λ h. omega arith, inr (λ h. false≢true (sym h), inr (no_port, inr (λ wrong. wrong (S, good), inr (step, inr (full room, (refl, refl))))))))
  where
    no_port : (port ≡ 0) ⊎ (4094 < port) → ⊥
    no_port (inl e) = omega arith
    no_port (inr h) = omega arith

    full : (0 < S []) ⊎ (t.count < capacity t.words) → NotHeld 32 t.words t.count 0 0 × (capacity t.words ≤ t.count) → ⊥
    full (inl held) wrong = omega (arith, wrong.0 S good)
    full (inr h) wrong = omega (arith, wrong.1)

withdraw_fine : (t : Table) (S : Routes) → Good t S → 0 < S [] → update_checks 32 t.words t.count (fresh t) (single (withdrawing 0 0)) 0 0
unfolding bits
withdraw_fine t S good held =
    inr (roomy t, inr (λ h. omega arith, inr (λ h. false≢true (sym h), inr (λ wrong. wrong (S, good), inr (in_step t S good, inr (λ none. omega (arith, none S good), (refl, refl)))))))

-- one memory holds one port for the whole space, whatever n is said to be
two_ports : (rows : List ℕ) (n m : ℕ) (S T : Routes) → GoodFor 32 (capacity rows) (row_at rows) n S → GoodFor 32 (capacity rows) (row_at rows) m T
    → S [] ≡ 1 → T [] ≡ 2 → ⊥
two_ports rows n m S T x y one two =
    let i = x.routes.only [] (omega (arith, one)) in
    let k = y.routes.only [] (omega (arith, two)) in
    let bits-same : row_bits 32 (row_at rows i.0) ≡ row_bits 32 (row_at rows k.0) = i.2 ∙ sym k.2 in
    let port-one : (row_at rows i.0).port ≡ 1 = sym (x.routes.here i.0 i.1) ∙ ap S i.2 ∙ one in
    let port-two : (row_at rows k.0).port ≡ 2 = sym (y.routes.here k.0 k.1) ∙ ap T k.2 ∙ two in
    by i k bits-same port-one port-two (lt_or_le n m)
  where
    by : (i : (i : ℕ) × (i < n) × (row_bits 32 (row_at rows i) ≡ [])) (k : (k : ℕ) × (k < m) × (row_bits 32 (row_at rows k) ≡ []))
        → row_bits 32 (row_at rows i.0) ≡ row_bits 32 (row_at rows k.0) → (row_at rows i.0).port ≡ 1 → (row_at rows k.0).port ≡ 2
        → (n < m) ⊎ (m ≤ n) → ⊥
    by i k e one two (inl h) = omega (arith, one, two, ap (λ (r : ℕ). (row_at rows r).port) (y.routes.different i.0 k.0 (omega (arith, i.1)) k.1 e))
    by i k e one two (inr h) = omega (arith, one, two, ap (λ (r : ℕ). (row_at rows r).port) (x.routes.different i.0 k.0 i.1 (omega (arith, k.1)) e))

-- one table holds the whole space, or does not
two_sets : (rows : List ℕ) (n : ℕ) (S T : Routes) → GoodFor 32 (capacity rows) (row_at rows) n S → GoodFor 32 (capacity rows) (row_at rows) n T
    → S [] ≡ 1 → T [] ≡ 0 → ⊥
two_sets rows n S T x y one none =
    omega (arith, one, none, ap (λ (R : Routes). R []) (good_unique 32 (capacity rows) (row_at rows) n S T x y))

module _ (B : Boundary) (ends : Ends B) (d : Demands B) where
  -- an update of a table, lent the counts of that, and that it may be so
  abbrev made : Table → Event → Step
  made t e = record { call = e; lent = fresh t; outcome = (ends.update t.words t.count (fresh t) e).0 }

  may : (t : Table) (e : Event) → B.update t.words t.count (fresh t) e (made t e).outcome
  may t e = (ends.update t.words t.count (fresh t) e).1

  -- it is accepted where its checks pass
  taken : (t : Table) (e : Event) → EventFits 32 e → update_checks 32 t.words t.count (fresh t) e 0 0 → (made t e).outcome.reply.number ≡ 0
  taken t e fits fine =
      (demand_1_decides.update t.words t.count (fresh t) e _ _ 0 0
      (d.one.update t.words t.count (fresh t) e (made t e).outcome fits (may t e)).exact fine
      ).0

  -- From five zero words, the whole space is announced to port 1.
  abbrev first : Step
  first = made (empty_table zeros) (single (announcing (whole 1)))

  first_may : B.update zeros 0 (fresh (empty_table zeros)) (single (announcing (whole 1))) first.outcome
  first_may = may (empty_table zeros) (single (announcing (whole 1)))

  empty_good : Good (empty_table zeros) (held_by [])
  empty_good = d.three.held zeros [] tt

  first_accepted : first.outcome.reply.number ≡ 0
  first_accepted =
      taken (empty_table zeros) (single (announcing (whole 1))) (omega arith)
      (announce_fine (empty_table zeros) (held_by []) (fresh (empty_table zeros)) 1 empty_good (roomy (empty_table zeros)) (in_step (empty_table zeros) (held_by []) empty_good) (omega arith) (omega arith) (inr (omega arith)))

  first_good : Good (left first) (held_by (first ∷ []))
  first_good = d.three.held zeros (first ∷ []) (omega arith, first_may, tt)

  first_held : held_by (first ∷ []) [] ≡ 1
  unfolding bits
  first_held = rw first_accepted

  -- so it has a row, that of the whole space
  first_row : (i : ℕ) × (i < (left first).count) × (row_bits 32 (row_at (left first).words i) ≡ [])
  first_row = first_good.routes.only [] (omega (arith, first_held))

  -- Port 2 is announced for it.
  abbrev again : Step
  again = made (left first) (single (announcing (whole 2)))

  again_may : B.update (left first).words (left first).count (fresh (left first)) (single (announcing (whole 2))) again.outcome
  again_may = may (left first) (single (announcing (whole 2)))

  again_accepted : again.outcome.reply.number ≡ 0
  again_accepted =
      taken (left first) (single (announcing (whole 2))) (omega arith)
      (announce_fine (left first) (held_by (first ∷ [])) (fresh (left first)) 2 first_good (roomy (left first)) (in_step (left first) (held_by (first ∷ [])) first_good) (omega arith) (omega arith) (inl (omega (arith, first_held))))

  again_good : Good (left again) (held_by (first ∷ again ∷ []))
  again_good = d.three.held zeros (first ∷ again ∷ []) (omega arith, first_may, (omega arith, again_may, tt))

  again_held : held_by (first ∷ again ∷ []) [] ≡ 2
  unfolding bits
  again_held = rw (first_accepted, again_accepted)

  -- Or it is withdrawn.
  abbrev gone : Step
  gone = made (left first) (single (withdrawing 0 0))

  gone_may : B.update (left first).words (left first).count (fresh (left first)) (single (withdrawing 0 0)) gone.outcome
  gone_may = may (left first) (single (withdrawing 0 0))

  gone_accepted : gone.outcome.reply.number ≡ 0
  gone_accepted =
      taken (left first) (single (withdrawing 0 0)) (omega arith) (withdraw_fine (left first) (held_by (first ∷ [])) first_good (omega (arith, first_held)))

  gone_good : Good (left gone) (held_by (first ∷ gone ∷ []))
  gone_good = d.three.held zeros (first ∷ gone ∷ []) (omega arith, first_may, (omega arith, gone_may, tt))

  gone_held : held_by (first ∷ gone ∷ []) [] ≡ 0
  unfolding bits
  gone_held = rw (first_accepted, gone_accepted)

  -- rows that are left as they were hold port 1 for the whole space, and no other
  later_announced : IgnoresAnnouncements B → ⊥
  later_announced ignores =
      let kept = ignores (left first).words (left first).count (fresh (left first)) (whole 2) again.outcome (omega (arith, first_row.1)) again_may again_accepted in
      two_ports (left first).words (left first).count (left again).count (held_by (first ∷ [])) (held_by (first ∷ again ∷ [])) first_good
      (subst (λ (rows : List ℕ). GoodFor 32 (capacity rows) (row_at rows) (left again).count (held_by (first ∷ again ∷ []))) kept again_good)
      first_held again_held

  -- a table that is left as it was holds a route that is not held
  later_withdrawn : IgnoresWithdrawals B → ⊥
  later_withdrawn ignores =
      let kept = ignores (left first).words (left first).count (fresh (left first)) 0 0 gone.outcome (omega (arith, first_row.1)) gone_may gone_accepted in
      two_sets (left first).words (left first).count (held_by (first ∷ [])) (held_by (first ∷ gone ∷ [])) first_good
      (subst (λ (n : ℕ). GoodFor 32 (capacity (left first).words) (row_at (left first).words) n (held_by (first ∷ gone ∷ []))) kept.1
      (subst (λ (rows : List ℕ). GoodFor 32 (capacity rows) (row_at rows) (left gone).count (held_by (first ∷ gone ∷ []))) kept.0 gone_good))
      first_held gone_held

-- one address, 0
zero_words : Words 32 (0 ∷ [])
zero_words zero = omega arith
zero_words (suc i) = omega arith

-- Builds from no route, and from the whole space to port 1, are accepted; so lookups in what they leave are to answer 0, and 1.
module _ (B : Boundary) (ends : Ends B) (d : Demands B) where
  module _ (list rows : List ℕ) (words : Words 32 list) (fine : (build_into five_words 32 list rows).answer.number ≡ 0) where
    abbrev built : Outcome Reply
    built = (ends.table-build list rows).0

    built_done : built.answer.number ≡ 0
    built_done =
        (demand_1_decides.table-build list rows _ _ _ _ (d.one.table-build list rows built (ends.table-build list rows).1).exact
        (build_refuses 32 list rows).exact).0
        ∙ fine

    abbrev found : (x : Reply) × B.table-lookup built.lent (result built.answer) 0 x
    found = ends.table-lookup built.lent (result built.answer) 0

    found_scan : (found.0.number ≡ 0) × (result found.0 ≡ scan_of 32 (route_at list) (route_count list) 0)
    found_scan = d.two.table list rows built 0 found.0 words (omega arith) (ends.table-build list rows).1 built_done found.1

    fixed_is_scan : (fixed : FixedPort B) → fixed.0 ≡ scan_of 32 (route_at list) (route_count list) 0
    fixed_is_scan fixed =
        sym (fixed.1 built.lent (result built.answer) 0 found.0 found.1 found_scan.0) ∙ found_scan.1

  module _ (list nodes ports : List ℕ) (words : Words 32 list) (fine : (build_image 32 1 list nodes ports).built.number ≡ 0) where
    abbrev imaged : Imaged
    imaged = (ends.image-build 1 list nodes ports).0

    imaged_done : imaged.reply.number ≡ 0
    imaged_done =
        (demand_1_decides.image-build 1 list nodes ports _ _ _ _
        (d.one.image-build 1 list nodes ports imaged (ends.image-build 1 list nodes ports).1).exact
        (image_build_refuses 32 1 list nodes ports).exact).0
        ∙ fine

    abbrev one_seen : (o : Outcome Reply) × B.image-lookup-many 1 imaged.nodes imaged.ports (0 ∷ []) (0 ∷ []) o
    one_seen = ends.image-lookup-many 1 imaged.nodes imaged.ports (0 ∷ []) (0 ∷ [])

    one_seen_scan : one_seen.0 ≡ replied (outcome (accepted 0) (over (scanned_all list (0 ∷ [])) (0 ∷ [])))
    one_seen_scan =
        d.two.image_many 1 list nodes ports imaged (0 ∷ []) (0 ∷ []) one_seen.0 words zero_words (omega arith) (ends.image-build 1 list nodes ports).1 imaged_done
        one_seen.1

    fixed_is_element : (fixed : FixedElements B) → fixed.0 ≡ scan_of 32 (route_at list) (route_count list) 0
    unfolding list_of
    fixed_is_element fixed =
        sym (fixed.1 1 imaged.nodes imaged.ports (0 ∷ []) (0 ∷ []) one_seen.0 one_seen.1 (ap (λ (o : Outcome Reply). o.answer.number) one_seen_scan) 0 (omega arith))
        ∙ ap (λ (o : Outcome Reply). get_or o.lent 0 0) one_seen_scan

    abbrev seen : (x : Reply) × B.image-lookup 1 imaged.nodes imaged.ports 0 x
    seen = ends.image-lookup 1 imaged.nodes imaged.ports 0

    seen_scan : seen.0 ≡ looked (answered (scan_of 32 (route_at list) (route_count list) 0) (passed (list_routes 32 list) 1 32 [] (bits 32 0) + 1))
    seen_scan = d.two.image 1 list nodes ports imaged 0 seen.0 words (omega arith) (ends.image-build 1 list nodes ports).1 imaged_done seen.1

    fixed_is_image_scan : (fixed : FixedPortOfImage B) → fixed.0 ≡ scan_of 32 (route_at list) (route_count list) 0
    fixed_is_image_scan fixed =
        sym (fixed.1 1 imaged.nodes imaged.ports 0 seen.0 seen.1 (ap (λ (x : Reply). x.number) seen_scan)) ∙ ap result seen_scan

  module _ (list : List ℕ) (lent : Stores) (words : Words 32 list) (fine : (build_segments list lent).built.number ≡ 0) where
    abbrev segmented : Segmented
    segmented = (ends.segments-build list lent).0

    segmented_done : segmented.reply.number ≡ 0
    segmented_done =
        (demand_1_decides.segments-build list lent _ _ _ _
        (d.one.segments-build list lent segmented (ends.segments-build list lent).1).exact
        (segments_build_refuses list lent).exact).0
        ∙ fine

    abbrev one_got : (o : Outcome Reply) × B.segments-lookup-many segmented.stores (0 ∷ []) (0 ∷ []) o
    one_got = ends.segments-lookup-many segmented.stores (0 ∷ []) (0 ∷ [])

    one_got_scan : one_got.0 ≡ replied (outcome (accepted 0) (over (scanned_all list (0 ∷ [])) (0 ∷ [])))
    one_got_scan =
        d.two.segments_many list lent segmented (0 ∷ []) (0 ∷ []) one_got.0 words zero_words (omega arith) (ends.segments-build list lent).1 segmented_done one_got.1

    fixed_is_segment_element : (fixed : FixedElementsOfSegments B) → fixed.0 ≡ scan_of 32 (route_at list) (route_count list) 0
    unfolding list_of
    fixed_is_segment_element fixed =
        sym (fixed.1 segmented.stores (0 ∷ []) (0 ∷ []) one_got.0 one_got.1 (ap (λ (o : Outcome Reply). o.answer.number) one_got_scan) 0 (omega arith))
        ∙ ap (λ (o : Outcome Reply). get_or o.lent 0 0) one_got_scan

    abbrev got : (x : Reply) × B.segments-lookup segmented.stores 0 x
    got = ends.segments-lookup segmented.stores 0

    got_scan : got.0 ≡ looked (answered (scan_of 32 (route_at list) (route_count list) 0) (reads_of (route_at list) (route_count list) 0))
    got_scan = d.two.segments list lent segmented 0 got.0 words (omega arith) (ends.segments-build list lent).1 segmented_done got.1

    fixed_is_segment_scan : (fixed : FixedPortOfSegments B) → fixed.0 ≡ scan_of 32 (route_at list) (route_count list) 0
    fixed_is_segment_scan fixed =
        sym (fixed.1 segmented.stores 0 got.0 got.1 (ap (λ (x : Reply). x.number) got_scan)) ∙ ap result got_scan

no_words : Words 32 []
no_words i = omega arith

whole_space_words : Words 32 whole_space
whole_space_words zero = omega arith
whole_space_words (suc zero) = omega arith
whole_space_words (suc (suc zero)) = omega arith
whole_space_words (suc (suc (suc i))) = omega arith

no_routes_scanned : scan_of 32 (route_at []) 0 0 ≡ 0
unfolding list_of longest plain_scan
no_routes_scanned = refl

whole_space_scanned : scan_of 32 (route_at whole_space) 1 0 ≡ 1
unfolding list_of longest plain_scan
whole_space_scanned = refl

-- the whole space and its left half are two
two_differ : Differ same ([] ∷ (false ∷ []) ∷ [])
unfolding Differ among
two_differ = (refl, (refl, tt))

two_of : (q : Bits) → among same q ([] ∷ (false ∷ []) ∷ []) ≡ true → (q ≡ []) ⊎ (q ≡ false ∷ [])
unfolding among
two_of q h = by (either (same q []) (same q (false ∷ []) || false) h)
  where
    last : (same q (false ∷ []) ≡ true) ⊎ (false ≡ true) → (q ≡ []) ⊎ (q ≡ false ∷ [])
    last (inl e) = inr (same_eq q (false ∷ []) e)
    last (inr e) = absurd (false≢true e)

    by : (same q [] ≡ true) ⊎ ((same q (false ∷ []) || false) ≡ true) → (q ≡ []) ⊎ (q ≡ false ∷ [])
    by (inl e) = inl (same_eq q [] e)
    by (inr e) = last (either (same q (false ∷ [])) false e)

-- messages

module _ (B : Boundary) (ends : Ends B) (d : Demands B) where
  -- A message withdraws the whole space after it was announced.
  abbrev after : Table
  after = left (first B ends d)

  abbrev withdrawn : Step
  withdrawn = made B ends d after (message whole_withdrawn 1)

  withdrawn_may : B.update after.words after.count (fresh after) (message whole_withdrawn 1) withdrawn.outcome
  withdrawn_may = may B ends d after (message whole_withdrawn 1)

  abbrev only_first : Routes
  only_first = held_by (first B ends d ∷ [])

  -- what is left is among what was held
  fewer : (q : Bits) → 0 < final_set 32 1 (withdrawn_in 32 whole_withdrawn) (announced_in 32 whole_withdrawn) only_first q → 0 < only_first q
  unfolding among
  fewer q h = by (has_bits 32 q (prefix 0 0 ∷ [])) (rw (whole_withdraws, whole_announces) at h)
    where
      by : (b : Bool) → 0 < cond b 0 (only_first q) → 0 < only_first q
      by true k = absurd (omega (arith, k))
      by false k = k

  withdrawn_accepted : withdrawn.outcome.reply.number ≡ 0
  withdrawn_accepted =
      taken B ends d after (message whole_withdrawn 1) whole_bytes
      (inr (
        roomy after,
        checked_through whole_withdrawn _ whole_checked
            (inr (ported, inr (λ wrong. wrong (only_first, good), inr (in_step after only_first good, inr (many, (refl, refl)))))),
      ))
    where
      good : Good after only_first
      good = first_good B ends d

      ported : NoPort 1 → ⊥
      ported (inl e) = omega (arith, e)
      ported (inr h) = omega (arith, h)

      many : TooMany 32 whole_withdrawn 1 after.words after.count → ⊥
      many wrong =
          let T : Routes = final_set 32 1 (withdrawn_in 32 whole_withdrawn) (announced_in 32 whole_withdrawn) only_first in
          let k : ℕ = final_count 32 (row_at after.words) after.count (withdrawn_in 32 whole_withdrawn) (announced_in 32 whole_withdrawn) in
          let size : Size T k = final_sized 32 refl (capacity after.words) (row_at after.words) after.count only_first good whole_withdrawn whole_bytes 1 (omega arith) in
          omega (
            arith,
            wrong only_first good k size,
            good.few,
            size_le T only_first k after.count size (good_size 32 (capacity after.words) (row_at after.words) after.count only_first good) fewer,
          )

  withdrawn_good : Good (left withdrawn) (held_by (first B ends d ∷ withdrawn ∷ []))
  withdrawn_good = d.three.held zeros (first B ends d ∷ withdrawn ∷ []) (omega arith, first_may B ends d, (whole_bytes, withdrawn_may, tt))

  withdrawn_held : held_by (first B ends d ∷ withdrawn ∷ []) [] ≡ 0
  unfolding among
  withdrawn_held = rw (withdrawn_accepted, whole_withdraws, whole_announces)

  not_alone : AppliesAnnouncementsAlone B → ⊥
  not_alone alone =
      let kept = alone after.words after.count (fresh after) whole_withdrawn 1 withdrawn.outcome whole_announces withdrawn_may withdrawn_accepted in
      two_sets after.words after.count only_first (held_by (first B ends d ∷ withdrawn ∷ [])) (first_good B ends d)
      (subst (λ (n : ℕ). GoodFor 32 (capacity after.words) (row_at after.words) n (held_by (first B ends d ∷ withdrawn ∷ []))) kept.1
      (subst (λ (rows : List ℕ). GoodFor 32 (capacity rows) (row_at rows) (left withdrawn).count (held_by (first B ends d ∷ withdrawn ∷ []))) kept.0 withdrawn_good))
      (first_held B ends d) withdrawn_held

  -- A message announces the whole space and its left half to an empty table.
  abbrev empty : Table
  empty = empty_table (replicate 10 0)

  abbrev two : Step
  two = made B ends d empty (message two_announced 1)

  two_may : B.update (replicate 10 0) 0 (fresh empty) (message two_announced 1) two.outcome
  two_may = may B ends d empty (message two_announced 1)

  two_accepted : two.outcome.reply.number ≡ 0
  two_accepted =
      (demand_1_decides.update (replicate 10 0) 0 (fresh empty) (message two_announced 1) _ _ _ _
      (d.one.update (replicate 10 0) 0 (fresh empty) (message two_announced 1) two.outcome two_bytes two_may).exact
      (update_refuses 32 refl (replicate 10 0) 0 (fresh empty) (message two_announced 1) two_bytes).exact).0
      ∙ ap (λ (a : Answer). a.number) (fresh_is_plain (replicate 10 0) 0 (message two_announced 1) (held_by []) (d.three.held (replicate 10 0) [] tt)).0
      ∙ two_applied

  two_good : Good (left two) (held_by (two ∷ []))
  two_good = d.three.held (replicate 10 0) (two ∷ []) (two_bytes, two_may, tt)

  two_held : (held_by (two ∷ []) [] ≡ 1) × (held_by (two ∷ []) (false ∷ []) ≡ 1)
  unfolding among bits
  two_held = (rw (two_accepted, two_withdraws, two_announces), rw (two_accepted, two_withdraws, two_announces))

  not_first : StopsAtTheFirst B → ⊥
  not_first stops =
      let s : Size (held_by (two ∷ [])) (left two).count =
      good_size 32 (capacity (left two).words) (row_at (left two).words) (left two).count (held_by (two ∷ [])) two_good in
      omega (arith, stops (replicate 10 0) (fresh empty) two_announced 1 two.outcome two_may two_accepted, s.size, no_more same same_refl same_eq ([] ∷ (false ∷ []) ∷ []) s.list differ (among_both s))
    where
      differ : Differ same ([] ∷ (false ∷ []) ∷ [])
      differ = two_differ

      held_either : (q : Bits) → (q ≡ []) ⊎ (q ≡ false ∷ []) → 0 < held_by (two ∷ []) q
      held_either q (inl e) = rw e (omega (arith, two_held.0))
      held_either q (inr e) = rw e (omega (arith, two_held.1))

      among_both : (s : Size (held_by (two ∷ [])) (left two).count) (q : Bits) → among same q ([] ∷ (false ∷ []) ∷ []) ≡ true → among same q s.list ≡ true
      among_both s q h = s.just q ∙ lt-ltb 0 (held_by (two ∷ []) q) (held_either q (two_of q h))

-- counts

-- the whole space to port 1 alone, and no route at all
abbrev only_whole : Routes
only_whole q = cond (same q []) 1 0

whole_scanned : (b : Bits) → scan only_whole b ≡ 1
whole_scanned [] = refl
whole_scanned (b ∷ a) = ap (λ (p : ℕ). or_else p 1) (scan_none (side b only_whole) a (λ q h. refl))

none_scanned : (b : Bits) → scan no_routes b ≡ 0
none_scanned b = scan_none no_routes b (λ q h. refl)

-- where every address goes to port p
all_in_lem : (f : ℕ → ℕ) (p port : ℕ) → ((x : ℕ) → f x ≡ p) → addresses f port (2 ^ 32) ≡ cond (eqb p port) (2 ^ 32) 0
all_in_lem f p port one =
    addresses_stretch f port p 0 (2 ^ 32) (λ x h l. one x) ∙ ap (λ (c : ℕ). c + cond (eqb p port) (2 ^ 32) 0) (number_zero (λ a. eqb (f a) port)) ∙ zero-add _

module _ (B : Boundary) (ends : Ends B) (d : Demands B) where
  -- Counts are made of a table of no route, in five zero words.
  abbrev none : Table
  none = empty_table zeros

  abbrev afresh : Outcome Reply
  afresh = (ends.counts-make zeros 0 (fresh none)).0

  afresh_may : B.counts-make zeros 0 (fresh none) afresh
  afresh_may = (ends.counts-make zeros 0 (fresh none)).1

  none_good : Good none no_routes
  none_good = d.three.held zeros [] tt

  afresh_accepted : afresh.answer.number ≡ 0
  afresh_accepted =
      (demand_1_decides.counts-make zeros 0 (fresh none) _ _ 0 0 (d.one.counts-make zeros 0 (fresh none) afresh afresh_may).exact
      (inr (roomy none, inr (λ wrong. wrong (no_routes, none_good), (refl, refl))))
      ).0

  start : CountsAre no_routes (fresh none) afresh.lent
  start = d.three.counted none no_routes (fresh none) afresh [] none_good afresh_may afresh_accepted tt tt

  start_none : get_or afresh.lent 1 0 ≡ 0
  start_none = start.each 1 (omega arith) ∙ all_in_lem (λ a. scan no_routes (bits 32 a)) 0 1 (λ a. none_scanned (bits 32 a))

  -- They are lent to the announcement of the whole space to port 1.
  abbrev begun : Step
  begun = record {
    call = single (announcing (whole 1));
    lent = afresh.lent;
    outcome = (ends.update zeros 0 afresh.lent (single (announcing (whole 1)))).0;
  }

  begun_may : B.update zeros 0 afresh.lent (single (announcing (whole 1))) begun.outcome
  begun_may = (ends.update zeros 0 afresh.lent (single (announcing (whole 1)))).1

  begun_accepted : begun.outcome.reply.number ≡ 0
  begun_accepted =
      (demand_1_decides.update zeros 0 afresh.lent (single (announcing (whole 1))) _ _ 0 0
      (d.one.update zeros 0 afresh.lent (single (announcing (whole 1))) begun.outcome (omega arith) begun_may).exact
      (announce_fine none no_routes afresh.lent 1 none_good (λ h. omega (arith, start.size, fresh_long zeros 0))
      (λ stale. let x = stale no_routes none_good in x.2 (start.each x.0 x.1)) (omega arith) (omega arith) (inr (omega arith)))
      ).0

  abbrev held : Routes
  held q = port_since (begun ∷ []) q (no_routes q)

  held_at : (q : Bits) → held q ≡ only_whole q
  unfolding bits
  held_at q = rw begun_accepted

  held_whole : held ≡ only_whole
  held_whole = fun_ext held_at

  after_begun : CountsAre held (fresh none) begun.outcome.counts
  after_begun =
      d.three.counted none no_routes (fresh none) afresh (begun ∷ []) none_good afresh_may afresh_accepted (omega arith, begun_may, tt) (refl, tt)

  begun_at : (port : ℕ) → port < ports → get_or begun.outcome.counts port 0 ≡ cond (eqb 1 port) (2 ^ 32) 0
  begun_at port low =
      after_begun.each port low
      ∙ all_in_lem (λ a. scan held (bits 32 a)) 1 port (λ a. ap (λ (S : Routes). scan S (bits 32 a)) held_whole ∙ whole_scanned (bits 32 a))

pub impostors_stopped : ImpostorsStopped
impostors_stopped = record {
  refuses_announcements = λ B ends d refuses. refuses zeros 0 (fresh (empty_table zeros)) (whole 1) (first B ends d).outcome (first_may B ends d) (first_accepted B ends d);
  refuses_withdrawals = λ B ends d refuses.
      let t = left (first B ends d) in
      refuses t.words t.count (fresh t) 0 0 (gone B ends d).outcome (gone_may B ends d) (gone_accepted B ends d);
  refuses_lookups = λ B ends d refuses.
      let b = built B ends d [] [] no_words no_routes_built in
      let x = found B ends d [] [] no_words no_routes_built in
      refuses b.lent (result b.answer) 0 x.0 x.1 (found_scan B ends d [] [] no_words no_routes_built).0;
  fixed_port = λ B ends d fixed.
      omega (
        arith,
        fixed_is_scan B ends d [] [] no_words no_routes_built fixed,
        no_routes_scanned,
        fixed_is_scan B ends d whole_space zeros whole_space_words whole_space_built fixed,
        whole_space_scanned,
      );
  fixed_port_of_image = λ B ends d fixed.
      omega (
        arith,
        fixed_is_image_scan B ends d [] (replicate 2 0) (replicate 2 0) no_words (ap (λ (x : Left). x.built.number) no_routes_imaged) fixed,
        no_routes_scanned,
        fixed_is_image_scan B ends d whole_space (replicate 2 0) (replicate 2 0) whole_space_words (ap (λ (x : Left). x.built.number) whole_space_imaged) fixed,
        whole_space_scanned,
      );
  fixed_port_of_segments = λ B ends d fixed.
      omega (
        arith,
        fixed_is_segment_scan B ends d [] zero_stores no_words (no_routes_segmented zero_stores zeros_roomy) fixed,
        no_routes_scanned,
        fixed_is_segment_scan B ends d whole_space zero_stores whole_space_words (whole_space_segmented zero_stores zeros_roomy) fixed,
        whole_space_scanned,
      );
  fixed_elements = λ B ends d fixed.
      omega (
        arith,
        fixed_is_element B ends d [] (replicate 2 0) (replicate 2 0) no_words (ap (λ (x : Left). x.built.number) no_routes_imaged) fixed,
        no_routes_scanned,
        fixed_is_element B ends d whole_space (replicate 2 0) (replicate 2 0) whole_space_words (ap (λ (x : Left). x.built.number) whole_space_imaged) fixed,
        whole_space_scanned,
      );
  fixed_elements_of_segments = λ B ends d fixed.
      omega (
        arith,
        fixed_is_segment_element B ends d [] zero_stores no_words (no_routes_segmented zero_stores zeros_roomy) fixed,
        no_routes_scanned,
        fixed_is_segment_element B ends d whole_space zero_stores whole_space_words (whole_space_segmented zero_stores zeros_roomy) fixed,
        whole_space_scanned,
      );
  untouched_by_announcing = λ B ends d untouched. later_announced B ends d (λ rows n counts q x some. untouched rows n counts q x);
  untouched_by_withdrawing = λ B ends d untouched. later_withdrawn B ends d (λ rows n counts value len x some. untouched rows n counts value len x);
  first_announcement_only = later_announced;
  later_withdrawals_ignored = later_withdrawn;
  invented_rows = λ B ends d x.
      x.invented (ap read_count (d.three.looked_up x.rows x.steps x.address x.trie x.reply x.happened x.fits x.rule x.answers));
  invented_nodes = λ B ends d x.
      x.invented
      (ap read_count (d.two.image x.stride x.list x.nodes x.ports x.built x.address x.reply x.words x.fits x.builds x.done x.answers));
  invented_reads = λ B ends d x.
      x.invented
      (ap read_count (d.two.segments x.list x.lent x.built x.address x.reply x.words x.fits x.builds x.done x.answers));
  refuses_messages = λ B ends d refuses.
      let x = (no_call_refuses_all B d.one).message_applied in
      let o = ends.update x.0 x.1 x.2 (message x.3 x.4) in
      refuses x.0 x.1 x.2 x.3 x.4 o.0 o.1 (x.5 o.0 o.1);
  announcements_alone = not_alone;
  first_prefix_only = not_first;
  counts_nothing = λ B ends d zero-counts.
      omega (arith, begun_at B ends d 1 (omega arith), zero-counts zeros 0 _ _ _ (begun_may B ends d) (begun_accepted B ends d) 1 (omega arith));
  leaves_counts = λ B ends d leaves.
      omega (
        arith,
        begun_at B ends d 1 (omega arith),
        start_none B ends d,
        ap (λ (counts : List ℕ). get_or counts 1 0) (leaves zeros 0 _ _ _ (begun_may B ends d) (begun_accepted B ends d)),
      );
  counts_all_in_port_0 = λ B ends d all.
      omega (arith, begun_at B ends d 0 (omega arith), all zeros 0 _ _ _ (begun_may B ends d) (begun_accepted B ends d));
}
