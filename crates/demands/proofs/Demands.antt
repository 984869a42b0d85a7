-- THE DEMANDS hold of any boundary that follows the definitions, and so of the library's own. Assumes nothing.
use mathlib.Core.Path.{◌≡◌, refl, sym, ap, subst, ◌∙◌}
use mathlib.Core.Logic.{◌⊎◌, inl, inr, ⊎_elim}
use mathlib.Core.Bool.{true, false, cond, false≢true}
use mathlib.Core.List.{List, [], ◌∷◌}
use Prim.Native.Nat.{ℕ, ◌+◌, ◌*◌, ◌/◌, ◌%◌, ◌^◌, ◌≤◌, ◌<◌}
use native.Mathlib.Omega.{arith}
use lib.Dec.{eqb, leb}
use lib.ListN.{length, get_or, take, drop}
use borrow.Author.Tests.{eqb-true, eqb-false, le-leb}
use Rattle.promise.specs.Over.{Outcome, outcome, over}
use Rattle.lists.proofs.Tests.{way}
use Rattle.bits.specs.Bits.{bits}
use Rattle.trie.specs.Routes.{Routes}
use Rattle.trie.specs.Scan.{scan}
use Rattle.trie.specs.Trie.{Trie, reads}
use Rattle.trie.proofs.Rule.{trie_unique}
use Rattle.routes.specs.Routes.{route_at, route_count, words_of}
use Rattle.refusals.specs.Refusals.{accepted, found}
use Rattle.refusals.specs.Reply.{Reply, placed, counted, looked, replied}
use Rattle.refusals.specs.declared.Answer.{Answer}
use Rattle.refusals.specs.declared.found.Found.{Found}
use Rattle.routes.specs.Check.{list_check}
use Rattle.routes.specs.Scan.{scan_of, list_scan}
use Rattle.routes.proofs.Check.{accepted_valid}
use Rattle.file_rules.specs.Calls.{read_file, write_file}
use Rattle.file_rules.specs.File.{FileWidth}
use Rattle.file_rules.specs.Cleared.{cleared_file}
use Rattle.file_rules.proofs.Trips.{read_written, write_read, write_read_same}
use Rattle.table_rows.specs.Words.{capacity, row_at, five_words}
use Rattle.table_rules.specs.Lookup.{lookup_in}
use Rattle.table_rules.proofs.Lookup.{lookup_is_scan}
use Rattle.table_rules.specs.Holds.{GoodFor}
use Rattle.table_rules.specs.RowsRead.{RowsRead}
use Rattle.table_rules.proofs.RowsRead.{lookup_reads_none, lookup_reads as table-reads-are}
use Rattle.table_rules.specs.Save.{saved, save_into}
use Rattle.table_rules.proofs.Good.{check_is_good}
use Rattle.table_rules.proofs.Save.{saved_is}
use Rattle.table_rows.proofs.Words.{words_stores}
use Rattle.table_update.proofs.BuildIsGood.{built_lookup_is_scan}
use Rattle.table_update.proofs.BuildIsHistory.{build_accepted}
use Rattle.image_rules.specs.Lookup.{is_stride, Strided, lookup_words}
use Rattle.image_rules.specs.Image.{passed}
use Rattle.image_rules.specs.NodesRead.{ReadsAndNumber}
use Rattle.image_rules.proofs.Walk.{ports_le}
use Rattle.image_rules.proofs.NodesRead.{lookup_reads as image-reads-are}
use Rattle.image_build.specs.Build.{Left, list_routes, build_image}
use Rattle.image_build.proofs.Scanned.{built_is_scan}
use Rattle.runs_rules.specs.Runs.{runs}
use Rattle.runs_rules.proofs.Runs.{listing_unique, listing_exists}
use Rattle.runs_rules.proofs.Maximal.{listing_is_maximal}
use Rattle.runs_rules.proofs.Listing.{list_runs_done}
use Rattle.runs_rules.proofs.TableRuns.{table_runs_done}
use Rattle.segment_rules.specs.Build as segments
use Rattle.segment_rules.specs.Build.{Stores, lookup_stores}
use Rattle.segment_rules.specs.Tables.{plain_pointer}
use Rattle.segment_rules.specs.Parts.{entries_of}
use Rattle.segment_rules.specs.Theorems.{reads_of}
use Rattle.segment_rules.proofs.Lent.{ports_le as segment-ports-le}
use Rattle.segment_rules.proofs.Walk.{reads_le as segment-reads-le}
use Rattle.segment_rules.proofs.AfterBuild.{built_is_scan as segments-built-is-scan}
use Rattle.count_rules.specs.Counted.{Counted}
use Rattle.maftehon.specs.Reply.{Imaged, replied_image, Segmented, replied_segments, replied_place, Booked, replied_book}
use Rattle.demands.specs.Lamp.{Verdict, done, Lamp}
use Rattle.demands.specs.SegmentChecks.{segment_reads, entries_stand}
use Rattle.demands.specs.Boundary.{Boundary, place, result, read_count}
use Rattle.demands.specs.Exports.{exports}
use Rattle.demands.specs.History.{empty_table, at_end, held_by}
use Rattle.demands.specs.Refused as refused
use Rattle.demands.specs.Demands.{Demand1, Demand2, Demand3, OneListing, Demands}
use Rattle.demands.proofs.Shown.{On, Refuses, RefusesOnly, looking}
use Rattle.demands.proofs.OfLists.{read_refuses, write_refuses, check_refuses, scan_refuses, list_runs_refuses}
use Rattle.demands.proofs.OfTables.{table_check_refuses, lookup_refuses, build_refuses, save_refuses, table_runs_refuses}
use Rattle.demands.proofs.OfImages.{building, image_build_refuses, image_lookup_refuses}
use Rattle.demands.proofs.OfSegments.{segmenting, segments_build_refuses, words_on, entries_stand_lem}
use Rattle.demands.proofs.OfMany.{many_refuses, image_many_refuses, many_strided, many_done_strided, elements_are, all_found}
use Rattle.demands.proofs.OfMessages.{withdrawal_refuses}
use Rattle.demands.proofs.OfCounts.{booking, make_refuses, update_refuses}
use Rattle.demands.proofs.Entries.{entries_there, entries_built}
use Rattle.demands.proofs.Follows.{Follows, exports_follow}
use Rattle.demands.proofs.Histories.{held_is, counted_is}

-- What is refused in the library's answer is refused in the words that C gets.
module _ (checks : Verdict) where
  laid_whole : (count : ℕ) (lent : List ℕ) (o : Outcome Reply) (y : Outcome Answer) → o ≡ replied y → Refuses checks count lent y
      → refused.RefusesWhole checks (count ∷ []) lent o
  laid_whole count lent o y e r =
      subst (refused.RefusesWhole checks (count ∷ []) lent) (sym e)
      (record { exact = r.exact; kept = λ wrong. (ap (λ (c : ℕ). y.answer.place ∷ c ∷ []) (r.kept wrong).0, (r.kept wrong).1) })

  laid_alone : (lent : List ℕ) (o : Outcome Reply) (y : Outcome Answer) → o ≡ replied_place y → Refuses checks 0 lent y
      → refused.RefusesWhole checks [] lent o
  laid_alone lent o y e r =
      subst (refused.RefusesWhole checks [] lent) (sym e) (record { exact = r.exact; kept = λ wrong. (refl, (r.kept wrong).1) })

  laid_book : (n : ℕ) (rows counts : List ℕ) (x : Booked) (y : Counted) → x ≡ replied_book y → On (booking n rows counts) checks y
      → refused.RefusesBook checks n rows counts x
  laid_book n rows counts x y e r =
      subst (refused.RefusesBook checks n rows counts) (sym e)
      (record {
        exact = r.exact;
        kept = λ wrong. let k = r.kept wrong in (ap (λ (c : ℕ). y.answer.place ∷ c ∷ []) k.0, k.1, k.2);
      })

  laid_place : (x : Reply) (y : Answer) → x ≡ placed y → RefusesOnly checks y → refused.Refuses checks [] x
  laid_place x y e r = subst (refused.Refuses checks []) (sym e) (record { exact = r.exact; kept = λ wrong. refl })

  laid_count : (x : Reply) (y : Answer) → x ≡ counted y → RefusesOnly checks y → refused.Refuses checks (0 ∷ []) x
  laid_count x y e r =
      subst (refused.Refuses checks (0 ∷ [])) (sym e)
      (record { exact = r.exact; kept = λ wrong. ap (λ (c : ℕ). y.place ∷ c ∷ []) (r.kept wrong) })

  laid_found : (x : Reply) (y : Found) → x ≡ looked y → On looking checks y
      → refused.Refuses checks (0 ∷ read_count x ∷ []) x
  laid_found x y e r =
      subst (λ (z : Reply). refused.Refuses checks (0 ∷ read_count z ∷ []) z) (sym e)
      (record { exact = r.exact; kept = λ wrong. ap (λ (p : ℕ). 0 ∷ p ∷ y.reads ∷ []) (r.kept wrong) })

-- the same of the build of an image, which leaves two memories
abbrev RefusesImage : Verdict → List ℕ → List ℕ → Imaged → Type 0
RefusesImage checks nodes ports x =
    Lamp checks x.reply.number (place x.reply)
    ((x.reply.answer ≡ place x.reply ∷ 0 ∷ 0 ∷ []) × (x.nodes ≡ nodes) × (x.ports ≡ ports))

laid_image : (checks : Verdict) (nodes ports : List ℕ) (x : Imaged) (y : Left) → x ≡ replied_image y → On (building nodes ports) checks y
    → RefusesImage checks nodes ports x
laid_image checks nodes ports x y e r =
    subst (RefusesImage checks nodes ports) (sym e)
    (record {
      exact = r.exact;
      kept = λ wrong.
          let k = r.kept wrong in
          ((λ j. y.built.place ∷ k.0 j ∷ k.1 j ∷ []), k.2, k.3);
    })

-- and of segment tables, which leaves four
abbrev RefusesSegments : Verdict → Stores → Segmented → Type 0
RefusesSegments checks lent x =
    Lamp checks x.reply.number (place x.reply) ((x.reply.answer ≡ place x.reply ∷ 0 ∷ 0 ∷ 0 ∷ []) × (x.stores ≡ lent))

laid_segments : (checks : Verdict) (lent : Stores) (x : Segmented) (y : segments.Left) → x ≡ replied_segments y → On (segmenting lent) checks y
    → RefusesSegments checks lent x
laid_segments checks lent x y e r =
    subst (RefusesSegments checks lent) (sym e)
    (record {
      exact = r.exact;
      kept = λ wrong. let k = r.kept wrong in ((λ j. y.built.place ∷ k.0 j ∷ k.1 j ∷ k.2 j ∷ []), k.3);
    })

pub demand_1 : (B : Boundary) → Follows B → Demand1 B
demand_1 B f = record {
  file-read = λ file list o m. laid_whole _ 0 list o _ (f.file-read file list o m) (read_refuses 32 file list);
  file-write = λ list file o m. laid_whole _ 0 file o _ (f.file-write list file o m) (write_refuses 32 list file);
  list-check = λ list x m. laid_place _ x _ (f.list-check list x m) (check_refuses 32 list);
  list-scan = λ list a x m. laid_count _ x _ (f.list-scan list a x m) (scan_refuses 32 list a);
  list-runs = λ list runs o m. laid_whole _ 0 runs o _ (f.list-runs list runs o m) (list_runs_refuses 32 list runs);
  table-check = λ rows n x m. laid_place _ x _ (f.table-check rows n x m) (table_check_refuses 32 rows n);
  table-lookup = λ rows n a x m. laid_found _ x _ (f.table-lookup rows n a x m) (lookup_refuses 32 rows n a);
  table_reads = λ rows n a x m.
      let is = f.table-lookup rows n a x m in
      let none = lookup_reads_none 32 (capacity rows) (row_at rows) n a in (
        λ some few.
            subst (λ (y : Reply). RowsRead 32 (row_at rows) n a (read_count y) y.number) (sym is) (table-reads-are 32 (capacity rows) (row_at rows) n a some few),
        λ outside. ap read_count is ∙ ⊎_elim (λ (e : n ≡ 0). ap (λ (y : Found). y.reads) (none.0 e)) (λ (h : capacity rows < n). ap (λ (y : Found). y.reads) (none.1 h)) outside,
      );
  table-build = λ list rows o m. laid_whole _ 0 rows o _ (f.table-build list rows o m) (build_refuses 32 list rows);
  table-save = λ rows n list o m. laid_whole _ 0 list o _ (f.table-save rows n list o m) (save_refuses 32 rows n list);
  table-runs = λ rows n runs o m. laid_whole _ 0 runs o _ (f.table-runs rows n runs o m) (table_runs_refuses 32 rows n runs);
  image-build = λ s list nodes ports x m. laid_image _ nodes ports x _ (f.image-build s list nodes ports x m) (image_build_refuses 32 s list nodes ports);
  image-lookup = λ s nodes ports a x m. laid_found _ x _ (f.image-lookup s nodes ports a x m) (image_lookup_refuses 32 s nodes ports a);
  image_reads = λ s nodes ports a x m.
      subst (λ (y : Reply). ReadsAndNumber 32 s nodes ports a (read_count y) y.number) (sym (f.image-lookup s nodes ports a x m))
      (image-reads-are 32 s nodes ports a);
  image-lookup-many = λ s nodes ports addresses out o m.
      laid_whole _ 0 out o _ (f.image-lookup-many s nodes ports addresses out o m) (image_many_refuses 32 s nodes ports addresses out);
  image_elements = λ s nodes ports addresses out o m z.
      let is = f.image-lookup-many s nodes ports addresses out o m in
      let stride = many_done_strided 32 s nodes ports addresses out (sym (ap (λ (p : Outcome Reply). p.answer.number) is) ∙ z) in
      elements_are (lookup_words 32 s nodes ports) (B.image-lookup s nodes ports) (f.image-lookup s nodes ports) addresses out o
      (is ∙ ap replied (many_strided 32 s nodes ports addresses out stride)) z;
  segments-build = λ list lent x m. laid_segments _ lent x _ (f.segments-build list lent x m) (segments_build_refuses list lent);
  segments-lookup = λ s a x bits m. laid_found _ x _ (f.segments-lookup s a x m) (words_on (λ _. 0) s a bits);
  segments_reads = λ s a x m.
      let is = f.segments-lookup s a x m in (
        subst (λ (y : Reply). read_count y ≤ 4) (sym is) (segment-reads-le s.first s.packed s.plain s.last a),
        λ bits. subst (λ (y : Reply). segment_reads s a y.number (read_count y)) (sym is) (words_on (λ reads. reads) s a bits).exact,
      );
  segments-lookup-many = λ s addresses out o m.
      laid_whole _ 0 out o _ (f.segments-lookup-many s addresses out o m) (many_refuses (lookup_stores s) addresses out);
  segments_elements = λ s addresses out o m z.
      elements_are (lookup_stores s) (B.segments-lookup s) (f.segments-lookup s) addresses out o (f.segments-lookup-many s addresses out o m) z;
  segments-entries = λ packed plain entry x m.
      subst (refused.Refuses done (0 ∷ 0 ∷ [])) (sym (f.segments-entries packed plain entry x m))
      (record { exact = (refl, refl); kept = λ wrong. absurd (wrong refl) });
  segments_stand = λ packed plain entry x m.
      subst (λ (y : Reply). entries_stand packed plain entry (result y) (read_count y)) (sym (f.segments-entries packed plain entry x m))
      (entries_stand_lem packed plain entry).exact;
  message-write = λ list message o m. laid_whole _ 0 message o _ (f.message-write list message o m) (withdrawal_refuses 32 list message);
  counts-make = λ rows n counts o m. laid_alone _ counts o _ (f.counts-make rows n counts o m) (make_refuses 32 rows n counts);
  update = λ rows n counts e x fits m. laid_book _ n rows counts x _ (f.update rows n counts e x m) (update_refuses 32 refl rows n counts e fits);
}

-- 32 bits are whole bytes
address_width : FileWidth 32
address_width = record { whole = refl; short = omega arith; ported = omega arith }

-- a stride is whole in 32 bits
strided : (s : ℕ) → is_stride s ≡ true → Strided 32 s
strided s e = by (way (eqb s 1)) (way (eqb s 2)) (way (eqb s 4))
  where
    whole : (k : ℕ) → 32 % k ≡ 0 → s ≡ k → Strided 32 s
    whole k h is = record { stride = e; some = omega arith; whole = rw is h }

    by : (eqb s 1 ≡ true) ⊎ (eqb s 1 ≡ false) → (eqb s 2 ≡ true) ⊎ (eqb s 2 ≡ false) → (eqb s 4 ≡ true) ⊎ (eqb s 4 ≡ false) → Strided 32 s
    by (inl a) b c = whole 1 refl (eqb-true s 1 a)
    by (inr a) (inl b) c = whole 2 refl (eqb-true s 2 b)
    by (inr a) (inr b) (inl c) = whole 4 refl (eqb-true s 4 c)
    by (inr a) (inr b) (inr c) = absurd (false≢true (sym (rw (a, b, c)) ∙ e))

-- an image that is built has a stride
image_strided : (s : ℕ) (list nodes ports : List ℕ) → (build_image 32 s list nodes ports).built.number ≡ 0 → is_stride s ≡ true
unfolding build_image
image_strided s list nodes ports z = by (way (is_stride s))
  where
    by : (is_stride s ≡ true) ⊎ (is_stride s ≡ false) → is_stride s ≡ true
    by (inl a) = a
    by (inr a) = absurd (omega (arith, rw a at z))

-- a scan that is done
scan_done : (list : List ℕ) (a : ℕ) → (list_scan 32 list a).number ≡ 0 → list_scan 32 list a ≡ accepted (scan_of 32 (route_at list) (route_count list) a)
unfolding list_scan
scan_done list a z = by (way (eqb (list_check 32 list).number 0))
  where
    by : (eqb (list_check 32 list).number 0 ≡ true) ⊎ (eqb (list_check 32 list).number 0 ≡ false)
        → list_scan 32 list a ≡ accepted (scan_of 32 (route_at list) (route_count list) a)
    by (inl e) = rw e
    by (inr e) = absurd (eqb-false (list_check 32 list).number 0 e (rw e at z))

-- a save of a table in good order, with room
save_done : (rows : List ℕ) (n : ℕ) (list : List ℕ) (S : Routes) → GoodFor 32 (capacity rows) (row_at rows) n S → n * 3 ≤ length list
    → save_into 32 (capacity rows) (row_at rows) n list ≡ outcome (accepted n) (over (words_of (saved 32 (row_at rows) n)) list)
unfolding save_into
save_done rows n list S good room = rw ((check_is_good 32 (capacity rows) (row_at rows) n).1 (S, good), le-leb (n * 3) (length list) room)

module _ (B : Boundary) (f : Follows B) where
  abbrev number_of : Outcome Reply → ℕ
  number_of o = o.answer.number

  -- a lookup in what a build left
  table_built : (list rows : List ℕ) (b : Outcome Reply) (a : ℕ) (x : Reply) → B.table-lookup b.lent (result b.answer) a x
      → (y : Outcome Answer) → b ≡ replied y → x ≡ looked (lookup_in 32 (capacity y.lent) (row_at y.lent) y.answer.count a)
  table_built list rows b a x m y is =
      f.table-lookup b.lent (result b.answer) a x m
      ∙ ap (λ (o : Outcome Reply). looked (lookup_in 32 (capacity o.lent) (row_at o.lent) (result o.answer) a)) is

  pub demand_2 : Demand2 B
  demand_2 = record {
    scanned = λ list a x m z.
        let is = f.list-scan list a x m in
        is ∙ ap counted (scan_done list a (sym (ap (λ (r : Reply). r.number) is) ∙ z));
    table = λ list rows b a x fits small m z l.
        let is = f.table-build list rows b m in
        let d = build_accepted five_words 32 list rows (sym (ap number_of is) ∙ z) in
        let looked_is = table_built list rows b a x l _ (is ∙ ap replied d.is) in
        let scan = built_lookup_is_scan five_words 32 (words_stores 32) (route_at list) rows (route_count list) a (accepted_valid 32 list fits d.fine) d.room small in
        (ap (λ (r : Reply). r.number) looked_is ∙ scan.0, ap result looked_is ∙ scan.1);
    image = λ s list nodes ports b a x fits small m z l.
        let is = f.image-build s list nodes ports b m in
        let done = sym (ap (λ (y : Imaged). y.reply.number) is) ∙ z in
        f.image-lookup s b.nodes b.ports a x l
        ∙ ap (λ (y : Imaged). looked (lookup_words 32 s y.nodes y.ports a)) is
        ∙ ap looked (built_is_scan 32 s list nodes ports a (strided s (image_strided s list nodes ports done)) fits small done);
    segments = λ list lent b a x fits small m z l.
        let is = f.segments-build list lent b m in
        let done = sym (ap (λ (y : Segmented). y.reply.number) is) ∙ z in
        f.segments-lookup b.stores a x l
        ∙ ap (λ (y : Segmented). looked (lookup_stores y.stores a)) is
        ∙ ap looked (segments-built-is-scan list lent a fits done small);
    image_many = λ s list nodes ports b xs out o fits small room m z l.
        let is = f.image-build s list nodes ports b m in
        let done = sym (ap (λ (y : Imaged). y.reply.number) is) ∙ z in
        let stride = image_strided s list nodes ports done in
        let R = route_at list in
        f.image-lookup-many s b.nodes b.ports xs out o l
        ∙ ap replied
        (many_strided 32 s b.nodes b.ports xs out stride
        ∙ all_found (lookup_words 32 s b.nodes b.ports) (λ i. scan_of 32 R (route_count list) (get_or xs i 0))
        (λ i. passed (list_routes 32 list) s (32 / s) [] (bits 32 (get_or xs i 0)) + 1) xs out room
        (λ i. ap (λ (y : Imaged). lookup_words 32 s y.nodes y.ports (get_or xs i 0)) is
        ∙ built_is_scan 32 s list nodes ports (get_or xs i 0) (strided s stride) fits (small i) done)
        (ports_le 32 s b.nodes b.ports));
    segments_many = λ list lent b xs out o fits small room m z l.
        let is = f.segments-build list lent b m in
        let done = sym (ap (λ (y : Segmented). y.reply.number) is) ∙ z in
        let R = route_at list in
        f.segments-lookup-many b.stores xs out o l
        ∙ ap replied
        (all_found (lookup_stores b.stores) (λ i. scan_of 32 R (route_count list) (get_or xs i 0)) (λ i. reads_of R (route_count list) (get_or xs i 0)) xs out room
        (λ i. ap (λ (y : Segmented). lookup_stores y.stores (get_or xs i 0)) is ∙ segments-built-is-scan list lent (get_or xs i 0) fits done (small i))
        (segment-ports-le b.stores.first b.stores.packed b.stores.plain b.stores.last));
    segment_entries = λ list lent b i x fits below m z l.
        let is = f.segments-build list lent b m in
        let done = sym (ap (λ (y : Segmented). y.reply.number) is) ∙ z in
        let t = b.stores in
        let entry = get_or t.first i 0 in
        ap (λ (y : Reply). take (read_count y) (drop (result y) (cond (leb plain_pointer entry) t.plain t.packed)))
        (f.segments-entries t.packed t.plain entry x l)
        ∙ entries_there t.packed t.plain entry
        ∙ ap (λ (y : Segmented). entries_of y.stores.packed y.stores.plain (get_or y.stores.first i 0)) is
        ∙ entries_built list lent i fits done below;
    read_written = λ list file lent w o fits room m z r.
        let is = f.file-write list file w m in
        f.file-read (take (result w.answer) w.lent) lent o r
        ∙ ap (λ (y : Outcome Reply). replied (read_file 32 (take (result y.answer) y.lent) lent)) is
        ∙ ap replied (read_written 32 list file lent address_width fits (sym (ap number_of is) ∙ z) room);
    write_read = λ file list lent g o bytes room m z r.
        let is = f.file-read file list g m in
        f.file-write (take (result g.answer * 3) g.lent) lent o r
        ∙ ap (λ (y : Outcome Reply). replied (write_file 32 (take (result y.answer * 3) y.lent) lent)) is
        ∙ ap replied (write_read 32 file list lent address_width bytes (sym (ap number_of is) ∙ z) room)
        ∙ ap (λ (y : Outcome Reply). replied (outcome (accepted (length file)) (over (cleared_file file (result y.answer)) lent))) (sym is);
    write_read_same = λ file list lent g o bytes room m z none r.
        let is = f.file-read file list g m in
        f.file-write (take (result g.answer * 3) g.lent) lent o r
        ∙ ap (λ (y : Outcome Reply). replied (write_file 32 (take (result y.answer * 3) y.lent) lent)) is
        ∙ ap replied (write_read_same 32 file list lent address_width bytes (sym (ap number_of is) ∙ z) (rw is at none) room);
  }

  pub demand_3 : Demand3 B
  demand_3 = record {
    held = held_is B f;
    looked_up = λ rows steps a trie x h small rule m.
        let t = at_end (empty_table rows) steps in
        let good = held_is B f rows steps h in
        f.table-lookup t.words t.count a x m
        ∙ ap looked (lookup_is_scan 32 (capacity t.words) (row_at t.words) t.count a (held_by steps) good small)
        ∙ ap (λ (u : Trie). looked (found (scan (held_by steps) (bits 32 a)) (reads u (bits 32 a)))) (trie_unique good.placed.trie trie (held_by steps) good.placed.rule rule);
    saved = λ rows steps lent o h room m.
        let t = at_end (empty_table rows) steps in
        let good = held_is B f rows steps h in (
          saved 32 (row_at t.words) t.count,
          saved_is 32 (capacity t.words) (row_at t.words) t.count (held_by steps) good (omega (arith, good.few)),
          f.table-save t.words t.count lent o m ∙ ap replied (save_done t.words t.count lent (held_by steps) good room),
        );
    listed = λ rows steps lent rs o h lists room m.
        let t = at_end (empty_table rows) steps in
        f.table-runs t.words t.count lent o m
        ∙ ap replied
        (table_runs_done 32 (capacity t.words) (row_at t.words) t.count (held_by steps) lent rs (held_is B f rows steps h)
        (omega arith) ((listing_is_maximal _ _ rs).1 lists) room);
    listed_list = λ list lent rs x o c z lists room m.
        f.list-runs list lent o m
        ∙ ap replied (list_runs_done 32 list lent rs (sym (ap (λ (r : Reply). r.number) (f.list-check list x c)) ∙ z) ((listing_is_maximal _ _ rs).1 lists) room);
    counted = counted_is B f;
  }

pub one_listing : OneListing
one_listing f = (
  (runs f (2 ^ 32), (listing_is_maximal f (2 ^ 32) (runs f (2 ^ 32))).0 (listing_exists f (2 ^ 32) (omega arith))),
  λ rs qs x y. listing_unique f (2 ^ 32) rs qs ((listing_is_maximal f (2 ^ 32) rs).1 x) ((listing_is_maximal f (2 ^ 32) qs).1 y),
)

pub exports_meet : Demands exports
exports_meet = record { one = demand_1 exports exports_follow; two = demand_2 exports exports_follow; three = demand_3 exports exports_follow }
