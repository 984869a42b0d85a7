-- The tables written, store by store, and what a build answers at each return. Assumes nothing.
use mathlib.Core.Path.{◌≡◌, refl, sym, ap, ◌∙◌}
use mathlib.Core.Bool.{Bool, true, false, ◌&&◌}
use mathlib.Core.List.{List, [], ◌++◌}
use Prim.Native.Nat.{ℕ, ◌*◌, ◌≤◌, ◌<◌}
use native.Mathlib.Omega.{arith}
use lib.Dec.{leb}
use lib.ListN.{length, drop}
use lib.Seq.{sets, drop_at}
use borrow.Author.Tests.{ne_eqb, le-leb, lt-leb, leb-true}
use Rattle.lists.proofs.Tests.{both}
use Rattle.promise.specs.Over.{Outcome, outcome, over}
use Rattle.promise.proofs.Over.{over_sets, length_over}
use Rattle.lists.specs.Numbered.{list_of}
use Rattle.lists.proofs.Numbered.{length_list_of, list_of_same}
use Rattle.refusals.specs.Refusals.{no_room}
use Rattle.refusals.specs.declared.Answer.{Answer}
use Rattle.routes.specs.Routes.{route_at, route_count, Words}
use Rattle.routes.specs.Check.{list_check}
use Rattle.routes.specs.Scan.{scan_of}
use Rattle.routes.specs.declared.Route.{Route}
use Rattle.routes.proofs.Check.{accepted_valid}
use Rattle.routes.proofs.Scan.{scan_le}
use Rattle.runs_rules.specs.Runs.{run_size, run_words}
use Rattle.runs_rules.specs.Listing.{listed, list_runs}
use Rattle.runs_rules.specs.Theorems.{most_runs}
use Rattle.runs_rules.proofs.Listing.{listed_lists, never_too_many, list_runs_refused, list_runs_roomy, number_list_runs_roomy}
use Rattle.segment_rules.specs.Blocks.{port_at}
use Rattle.segment_rules.specs.Packed.{block_size, packed_size}
use Rattle.segment_rules.specs.Tables.{first_size, first_table, packed_store, plain_store, last_store}
use Rattle.segment_rules.specs.Build.{Stores, stores, Left, left, refused_build, done_build, have_room, tables_over, segments_into, build_segments}
use Rattle.segment_rules.proofs.AfterBuild.{build_into_lem}
use Rattle.segment_rules.proofs.Stores.{length_first, length_packed_store, length_plain_store, length_last_store}
use Rattle.segment_build.specs.declared.segments.Walk.{Walk}
use Rattle.segment_ports.specs.RunSearch.{port_from}
use Rattle.segment_ports.proofs.Runs.{listing_port}
use Rattle.segment_build.specs.Needs.{Ready, Counted, SegmentsRoom, FilledSegments, LastRoom, TablesRoom}

-- what is written over a table of the same length
over_over : (xs ys lent : List ℕ) → length xs ≡ length ys → over xs (over ys lent) ≡ over xs lent
over_over xs ys lent e =
    ap (λ (l : List ℕ). xs ++ l) (drop_at ys (drop (length ys) lent) (length xs) (sym e) ∙ ap (λ (k : ℕ). drop k lent) (sym e))

module _ (R : ℕ → Route) (n : ℕ) (runs : List ℕ) (s : Stores) (room : TablesRoom R n runs s) (first : List ℕ)
    (filled : first ≡ sets s.first 0 (list_of (λ b. port_from runs 0 (b * 65536)) first_size 0)) where
  abbrev ports : List ℕ
  ports = list_of (port_at 32 R n 16) first_size 0

  length_ports : length ports ≡ first_size
  length_ports = length_list_of (port_at 32 R n 16) first_size 0

  ported : first ≡ over ports s.first
  unfolding port_at
  ported =
      filled
      ∙ ap (sets s.first 0)
      (list_of_same (λ b. port_from runs 0 (b * 65536)) (port_at 32 R n 16) first_size 0 (λ b u v. room.ready.ported (b * 65536) (omega arith)))
      ∙ over_sets ports [] s.first 0 refl (omega (arith, length_ports, room.first_room))

  pub segments_room : SegmentsRoom R n runs first s.packed s.plain
  segments_room = record {
    ready = room.ready;
    first_room = omega (arith, ap length ported, length_over ports s.first (omega (arith, length_ports, room.first_room)), room.first_room);
    ports = ported ∙ sym (over_over ports ports s.first refl) ∙ ap (over ports) (sym ported);
    packed_room = room.packed_room;
    plain_room = room.plain_room;
  }

  pub lasts_room : LastRoom R n runs s.last
  lasts_room = record { ready = room.ready; room = room.last_room }

  pub tables_written : (first' packed' plain' last' : List ℕ) → FilledSegments R n first s.packed s.plain first' packed' plain'
      → last' ≡ over (last_store R n) s.last → stores first' packed' plain' last' ≡ tables_over R n s
  tables_written first' packed' plain' last' f l =
      let first_is : first' ≡ over (first_table R n) s.first =
      f.first_is ∙ ap (over (first_table R n)) ported ∙ over_over (first_table R n) ports s.first (length_first R n ∙ sym length_ports) in
      λ j. stores (first_is j) (f.packed_is j) (f.plain_is j) (l j)

-- what is tested of the stores, and what is answered
module _ (R : ℕ → Route) (n : ℕ) (s : Stores) (room : first_size ≤ length s.first) (w : Walk) (counted : Counted R n w) (there : Bool)
    (tested : there ≡ (leb (w.packed * packed_size) (length s.packed) && leb (w.plain * block_size) (length s.plain) && leb (w.last * block_size) (length s.last))) where
  have_room_is : have_room R n s ≡ there
  have_room_is =
      let p : length (packed_store R n) ≡ w.packed * packed_size = length_packed_store R n ∙ ap (λ (k : ℕ). k * packed_size) (sym counted.packed_are) in
      let q : length (plain_store R n) ≡ w.plain * block_size = length_plain_store R n ∙ ap (λ (k : ℕ). k * block_size) (sym counted.plain_are) in
      let l : length (last_store R n) ≡ w.last * block_size = length_last_store R n ∙ ap (λ (k : ℕ). k * block_size) (sym counted.last_are) in
      let f : leb (length (first_table R n)) (length s.first) ≡ true = le-leb (length (first_table R n)) (length s.first) (omega (arith, length_first R n)) in
      rw (f, p, q, l) (sym tested)

  pub tables_room : (runs : List ℕ) → Ready R n runs → there ≡ true → TablesRoom R n runs s
  tables_room runs ready t =
      let all = sym tested ∙ t in
      let a = both (leb (w.packed * packed_size) (length s.packed) && leb (w.plain * block_size) (length s.plain)) (leb (w.last * block_size) (length s.last)) all in
      let b = both (leb (w.packed * packed_size) (length s.packed)) (leb (w.plain * block_size) (length s.plain)) a.0 in
      record {
        ready = ready;
        first_room = room;
        packed_room = omega (arith, leb-true (w.packed * packed_size) (length s.packed) b.0, counted.packed_are);
        plain_room = omega (arith, leb-true (w.plain * block_size) (length s.plain) b.1, counted.plain_are);
        last_room = omega (arith, leb-true (w.last * block_size) (length s.last) a.1, counted.last_are);
      }

  pub into_written : there ≡ true → (t : Stores) → t ≡ tables_over R n s → left (done_build w.packed w.plain w.last) t ≡ segments_into R n s
  unfolding segments_into
  into_written h t e =
      rw (have_room_is, h)
      (λ j. left (done_build (counted.packed_are j) (counted.plain_are j) (counted.last_are j)) (e j))

  pub into_short : there ≡ false → left (refused_build no_room 0) s ≡ segments_into R n s
  unfolding segments_into
  into_short h = rw (have_room_is, h)

-- what a build answers: the runs of the list are asked for in room for as many as a list can have
module _ (list lent runs : List ℕ) (listing : Answer) (fits : Words 32 list) (size : length lent ≡ most_runs * run_size)
    (is : outcome listing runs ≡ list_runs 32 list lent) (s : Stores) where
  number_is : listing.number ≡ (list_check 32 list).number
  number_is = ap (λ (o : Outcome Answer). o.answer.number) is ∙ number_list_runs_roomy 32 list lent fits (omega (arith, size))

  pub build_refused : (listing.number ≡ 0 → ⊥) → left (refused_build listing.number listing.place) s ≡ build_segments list s
  unfolding build_segments
  build_refused f =
      let wrong : (list_check 32 list).number ≡ 0 → ⊥ = λ z. f (number_is ∙ z) in
      let checked : listing ≡ list_check 32 list = ap (λ (o : Outcome Answer). o.answer) (is ∙ list_runs_refused 32 list lent wrong) in
      rw (ne_eqb (list_check 32 list).number 0 wrong)
      (ap (λ (a : Answer). left (refused_build a.number a.place) s) checked)

  module _ (z : listing.number ≡ 0) where
    accepted_number : (list_check 32 list).number ≡ 0
    accepted_number = sym number_is ∙ z

    pub runs_ready : Ready (route_at list) (route_count list) runs
    runs_ready =
        let R = route_at list in
        let n = route_count list in
        let ok = accepted_valid 32 list fits accepted_number in
        let written : runs ≡ over (run_words (listed 32 R n)) lent =
        ap (λ (o : Outcome Answer). o.lent) (is ∙ list_runs_roomy 32 list lent fits (omega (arith, size)) accepted_number) in
        record {
          valid = ok;
          ported = λ a h.
              rw written
              (listing_port (scan_of 32 R n) (listed 32 R n) lent (listed_lists 32 R n) (λ x. omega (arith, scan_le 32 R n ok x))
              (omega (arith, never_too_many 32 R n ok, size)) a h);
        }

    pub build_is_into : {b : Left} → b ≡ segments_into (route_at list) (route_count list) s → b ≡ build_segments list s
    build_is_into e = e ∙ sym (build_into_lem list s accepted_number)

    pub build_no_first : length s.first < first_size → left (refused_build no_room 0) s ≡ build_segments list s
    unfolding segments_into
    build_no_first h =
        build_is_into
        (rw (lt-leb (length (first_table (route_at list) (route_count list))) (length s.first) (omega (arith, length_first (route_at list) (route_count list)))))
