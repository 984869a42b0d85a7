-- The turns of the sweep, from the values of the code and what its calls promise: the innermost open route is closed, or the
-- next route is opened, and the open run goes on up to there. Assumes nothing.
use mathlib.Core.Path.{◌≡◌, refl, sym, ◌∙◌}
use mathlib.Core.Bool.{Bool, true}
use mathlib.Core.List.{List}
use Prim.Native.Nat.{ℕ, ◌+◌, ◌-◌, ◌*◌, ◌^◌, ◌≤◌, ◌<◌}
use native.Mathlib.Omega.{arith}
use lib.ListN.{length, set}
use lib.Pow.{pow_pos}
use Rattle.bits.specs.Prefix.{last}
use Rattle.routes.specs.Routes.{ValidList}
use Rattle.routes.specs.Scan.{scan_of}
use Rattle.routes.specs.declared.Route.{Route}
use Rattle.runs_rules.specs.Runs.{runs, run_size}
use Rattle.runs_rules.proofs.Listing.{never_too_many}
use Rattle.runs_write.specs.Sweep.{start_of, open_run, open_route, open_at}
use Rattle.runs_write.specs.Needs.{Open, RoomFor, Ended, Turned, GoneOn, Swept}
use Rattle.runs_write.specs.declared.sweep.OpenRoute.{OpenRoute}
use Rattle.runs_write.specs.declared.sweep.OpenRun.{OpenRun}
use Rattle.runs_write.proofs.Open.{start_in, start_out, start_lt, start_le, open_none, open_closed, open_pushed, stack_room, open_port, open_on}
use Rattle.runs_write.proofs.Writing.{Counted, counted_none, counted_turned, counted_gone_on, counted_all, room_next, gone_on_next}

module _ (w : ℕ) (R : ℕ → Route) (n : ℕ) (lent : List ℕ) (write : Bool) where
  abbrev scan : ℕ → ℕ
  scan = scan_of w R n

  -- the routes open where the open run ends, and the runs counted before it; the next route begins no earlier
  pub record Sweeping (left : List ℕ) (stack : List OpenRoute) (depth : ℕ) (r : OpenRun) (i start : ℕ) : Type 0 where
    pub opened : Open w R n stack depth i r.next
    pub counted : Counted scan (2 ^ w) lent write left r
    pub start_is : start ≡ start_of w R n i
    pub ahead : r.next ≤ start

  pub sweeping_none : (stack : List OpenRoute) → ValidList w R n → length stack ≡ w + 2 → open_at stack 0 ≡ open_route (2 ^ w - 1) 0
      → {start : ℕ} → start ≡ start_of w R n 0 → Sweeping lent stack 0 (open_run 0 0 0 0) 0 start
  sweeping_none stack ok size whole is = record {
    opened = open_none w R n stack ok size whole;
    counted = counted_none scan (2 ^ w) lent write 0;
    start_is = is;
    ahead = omega arith;
  }

  module _ {left : List ℕ} {stack : List OpenRoute} {depth : ℕ} {r : OpenRun} {i start : ℕ} (s : Sweeping left stack depth r i start)
      (room : write ≡ true → length (runs scan (2 ^ w)) * run_size ≤ length lent) where
    abbrev stop : ℕ
    stop = (open_at stack depth).end

    abbrev port : ℕ
    port = (open_at stack depth).port

    pub start_small : start < 2 ^ w
    start_small = omega (arith, s.start_is, start_lt w R n i s.opened.valid)

    pub room_turn : RoomFor left write r.count
    room_turn = room_next scan (2 ^ w) s.counted room (never_too_many w R n s.opened.valid)

    -- up to the end of the innermost, and before the next begins, addresses go to the innermost's port
    one_port : (x : ℕ) → r.next ≤ x → x ≤ stop → (i < n → x < start) → scan x ≡ port
    one_port x u v b =
        open_port w R n stack depth i r.next x s.opened u v (λ h. omega (arith, b h, s.start_is, start_in w R n i s.opened.valid h))

    -- the innermost ends before the next route begins
    module _ (ended : stop < start) where
      pub turn_deep : 0 < depth
      turn_deep =
          (open_closed w R n stack depth i r.next start s.opened s.ahead ended start_small).0

      pub turn_close : {r' : OpenRun} {left' : List ℕ} → GoneOn left write r (stop + 1) port r' left' → length left' ≡ length left
          → Sweeping left' stack (depth - 1) r' i start
      turn_close {r'} g e =
          let far = gone_on_next g in
          let l = far.2 start s.ahead (omega arith) in
          record {
            opened =
                (open_closed w R n stack depth i r.next r'.next s.opened far.0 (omega (arith, far.1)) (omega (arith, start_small))).1;
            counted =
                counted_gone_on scan (2 ^ w) s.counted room (stop + 1) port (omega (arith, start_small)) (λ x u v. one_port x u (omega arith) (λ h. omega arith)) g e;
            start_is = s.start_is;
            ahead = l;
          }

    -- it does not
    module _ (still : start ≤ stop) where
      -- and there is a next route
      module _ (here : i < n) where
        begins : (R i).value ≡ start
        begins = sym (s.start_is ∙ start_in w R n i s.opened.valid here)

        opened_at : Open w R n stack depth i start
        opened_at = open_on w R n stack depth i r.next start s.opened s.ahead

        pub turn_room : depth < w + 1
        turn_room = stack_room w R n stack depth i start opened_at here (omega (arith, begins)) (omega (arith, begins))

        pub turn_open : {r' : OpenRun} {left' : List ℕ} {start' end_of_lem port-of : ℕ} → GoneOn left write r start port r' left'
            → length left' ≡ length left → end_of_lem ≡ last w (R i).value (R i).len → port-of ≡ (R i).port → start' ≡ start_of w R n (i + 1)
            → Sweeping left' (set stack (depth + 1) (open_route end_of_lem port-of)) (depth + 1) r' (i + 1) start'
        turn_open {r'} g e end_is port_is is =
            let far = gone_on_next g in
            let l = far.2 start s.ahead (omega arith) in
            let at : r'.next ≡ start = omega (arith, l, far.1) in
            record {
              opened =
                  rw (at, end_is, port_is) (open_pushed w R n stack depth i start opened_at here (omega (arith, begins)) (omega (arith, begins)));
              counted =
                  counted_gone_on scan (2 ^ w) s.counted room start port (omega (arith, start_small)) (λ x u v. one_port x u (omega arith) (λ h. v)) g e;
              start_is = is;
              ahead = omega (arith, at, is, s.start_is, start_le w R n i s.opened.valid here);
            }

      -- and there is none: the rest of the addresses is the innermost's
      module _ (all : n ≤ i) {r' : OpenRun} {left' : List ℕ} (t : Turned left write r port r' left') (e : length left' ≡ length left) where
        abbrev full : OpenRun
        full = open_run r'.first (2 ^ w) port r'.count

        counted_full : Counted scan (2 ^ w) lent write left' full
        counted_full =
            rw t.run_is
            (counted_turned scan (2 ^ w) s.counted room (2 ^ w) port (omega (arith, s.ahead, start_small)) (omega arith)
            (λ x u v. one_port x u (omega (arith, s.start_is, start_out w R n i all)) (λ h. absurd (omega arith)))
            t.written e)

        pub room_end : RoomFor left' write r'.count
        room_end = room_next scan (2 ^ w) counted_full room (never_too_many w R n s.opened.valid)

        pub turn_end : {next : ℕ} {left'' : List ℕ} → Ended left' write r'.count r'.first (2 ^ w - 1) port next left''
            → Swept (runs scan (2 ^ w)) write next lent left''
        turn_end put = counted_all scan (2 ^ w) counted_full room refl (pow_pos w) put
