-- Defines the checks of every call, in their order: RULES, "Refusals" and "Order of the checks". Assumes nothing.
use Rattle.std.specs.Prelude.{◌≡◌, ◌⊎◌, true, false, List, ℕ, zero, suc, ◌+◌, ◌-◌, ◌*◌, ◌/◌, ◌%◌, ◌^◌, ◌≤◌, ◌<◌, length, get_or}
use Rattle.bits.specs.Bits.{prefix_bits, bit_before}
use Rattle.bits.specs.Prefix.{clear, precedes}
use Rattle.bits.specs.Bitmap.{slot_bit}
use Rattle.trie.specs.Routes.{Routes, Route as BitRoute}
use Rattle.refusals.specs.Refusals.{short_file, wrong_version, wrong_size, long_prefix, spare_bits, wrong_port, not_above, too_many_routes, no_room, not_in_order, wrong_stride}
use Rattle.routes.specs.Bounds.{most_routes, last_port}
use Rattle.routes.specs.Routes.{route_at, route_count}
use Rattle.routes.specs.declared.Route.{Route}
use Rattle.octets.specs.Octets.{len_at}
use Rattle.file_rules.specs.File.{version, head_size, stated_size, size_for, read_at, place_of, file_route, file_of}
use Rattle.table_rules.specs.Rows.{Mem, child}
use Rattle.table_rows.specs.Words.{capacity, row_at}
use Rattle.table_rules.specs.Holds.{GoodFor, GoodOrder}
use Rattle.table_rules.specs.Lookup.{wrong_row, ends_at}
use Rattle.image_rules.specs.Node.{node_count, bitmap_of}
use Rattle.image_rules.specs.Lookup.{address_slot, leaf_of, child_at}
use Rattle.image_rules.specs.NodesRead.{Unsound}
use Rattle.image_rules.specs.Image.{image_nodes, image_ports}
use Rattle.image_build.specs.Build as build
use Rattle.runs_rules.specs.Runs.{Run}
use Rattle.runs_rules.specs.Listing.{listed}
use Rattle.runs_rules.specs.TableRuns.{table_routes}
use Rattle.demands.specs.Lamp.{Verdict, shows, done, whether, refuse}

-- "port outside 1..4094"
abbrev pub NoPort : ℕ → Type 0
NoPort port = (port ≡ 0) ⊎ (last_port < port)

-- "4 | prefix length above 32", "5 | bits set past the length"
abbrev pub prefix_checks : ℕ → ℕ → ℕ → ℕ → Verdict → Verdict
prefix_checks w place value len rest =
    refuse long_prefix place (w < len) (refuse spare_bits place (clear w value len ≡ false) rest)

-- "4, 5, 6" on a route
abbrev pub route_checks : ℕ → ℕ → Route → Verdict → Verdict
route_checks w place r rest = prefix_checks w place r.value r.len (refuse wrong_port place (NoPort r.port) rest)

-- "not above the route before"
abbrev pub NotAbove : (ℕ → Route) → ℕ → Type 0
NotAbove R i = (0 < i) × (precedes (R (i - 1)).value (R (i - 1)).len (R i).value (R i).len ≡ false)

-- "per route 4, 5, 6, 7", at the route's number: k routes from number i on
abbrev pub each_route : ℕ → (ℕ → Route) → ℕ → ℕ → Verdict → Verdict
each_route w R zero i rest = rest
each_route w R (suc k) i rest = route_checks w i (R i) (refuse not_above i (NotAbove R i) (each_route w R k (i + 1) rest))

-- "List: 3, 8; per route 4, 5, 6, 7; then"
abbrev pub list_checks : ℕ → List ℕ → Verdict → Verdict
list_checks w words rest =
    refuse wrong_size 0 (length words % 3 ≡ 0 → ⊥)
    (refuse too_many_routes 0 (most_routes < route_count words) (each_route w (route_at words) (route_count words) 0 rest))

-- per route 8, 4, 3 (cut), 6, 7, at the route's first byte: from route i on, at most k of them, as long as bytes are left
abbrev pub each_in_file : ℕ → List ℕ → ℕ → ℕ → (ℕ → Verdict) → Verdict
each_in_file w file zero i rest = rest i
each_in_file w file (suc k) i rest =
    let at : ℕ = place_of file i in
    whether (at < length file)
    (refuse too_many_routes at (most_routes ≤ i)
    (refuse long_prefix at (w < len_at file at)
    (refuse wrong_size at (length file < at + size_for (len_at file at))
    (refuse wrong_port at (NoPort (read_at w file at).port)
    (refuse not_above at (NotAbove (file_route w file) i) (each_in_file w file k (i + 1) rest))))))
    (rest i)

-- "File: 1, 2, 3 (size); per route"; what follows is told how many routes there are
abbrev pub file_checks : ℕ → List ℕ → (ℕ → Verdict) → Verdict
file_checks w file rest =
    refuse short_file 0 (length file < head_size)
    (refuse wrong_version 0 (get_or file 0 0 ≡ version → ⊥)
    (refuse wrong_size 0 (stated_size file ≡ length file - head_size → ⊥) (each_in_file w file (length file - head_size) 0 rest)))

-- "9 | the lent output is too short for what is to be written"
abbrev pub room_for : ℕ → List ℕ → Verdict
room_for needed lent = refuse no_room 0 (length lent < needed) done

abbrev pub read_checks : ℕ → List ℕ → List ℕ → Verdict
read_checks w file list = file_checks w file (λ n. room_for (n * 3) list)

abbrev pub write_checks : ℕ → List ℕ → List ℕ → Verdict
write_checks w list file = list_checks w list (room_for (length (file_of w (route_at list) (route_count list))) file)

-- "11 | table not in good order"
abbrev pub order_checks : ℕ → List ℕ → ℕ → Verdict → Verdict
order_checks w rows n rest = refuse not_in_order 0 (GoodOrder w (capacity rows) (row_at rows) n → ⊥) rest

-- a table in good order holds no route with this prefix
abbrev pub NotHeld : ℕ → List ℕ → ℕ → ℕ → ℕ → Type 0
NotHeld w rows n value len =
    (S : Routes) → GoodFor w (capacity rows) (row_at rows) n S → S (prefix_bits w value len) ≡ 0

abbrev pub build_checks : ℕ → List ℕ → List ℕ → Verdict
build_checks w list rows = list_checks w list (refuse no_room 0 (capacity rows < route_count list) done)

-- "Saving a table as a list: 11, then 9"
abbrev pub save_checks : ℕ → List ℕ → ℕ → List ℕ → Verdict
save_checks w rows n list = order_checks w rows n (room_for (n * 3) list)

-- the table's lookup: 11 for each row read that is wrong, until the search ends
abbrev pub row_checks : ℕ → Mem → ℕ → ℕ → ℕ → ℕ → Verdict
row_checks w M n a zero r = refuse not_in_order 0 (wrong_row w (M r) n a w ≡ true) done
row_checks w M n a (suc k) r =
    refuse not_in_order 0 (wrong_row w (M r) n a (w - suc k) ≡ true)
    (whether (ends_at w (M r) a (w - suc k) ≡ true) done
    (whether (child (M r) (bit_before a k) ≡ 0) done (row_checks w M n a k (child (M r) (bit_before a k)))))

abbrev pub lookup_checks : ℕ → List ℕ → ℕ → ℕ → Verdict
lookup_checks w rows n a =
    refuse not_in_order 0 (capacity rows < n) (whether (n ≡ 0) done (row_checks w (row_at rows) n a w 0))

-- "12 | stride not 1, 2 or 4"
abbrev pub stride_check : ℕ → Verdict → Verdict
stride_check s rest = refuse wrong_stride 0 ((s ≡ 1 → ⊥) × (s ≡ 2 → ⊥) × (s ≡ 4 → ⊥)) rest

-- "Image: 12, the list checks, then 9 for nodes or ports"
abbrev pub image_checks : ℕ → ℕ → List ℕ → List ℕ → List ℕ → Verdict
image_checks w s list nodes ports =
    let rs : List BitRoute = build.list_routes w list in
    stride_check s
    (list_checks w list
    (refuse no_room 0 ((length nodes < length (image_nodes s (w / s) rs)) ⊎ (length ports < length (image_ports s (w / s) rs))) done))

-- the image's lookup: 11 for each node read that is wrong, until a leaf; "or a non-leaf at depth 32-s"
abbrev pub node_checks : ℕ → List ℕ → List ℕ → ℕ → ℕ → ℕ → Verdict
node_checks s nodes ports a zero i = shows not_in_order 0
node_checks s nodes ports a (suc k) i =
    refuse not_in_order 0 ((i ≡ 0) ⊎ (node_count nodes < i))
    (refuse not_in_order 0 (Unsound s nodes i)
    (whether (slot_bit (2 ^ s) (bitmap_of nodes i) (address_slot s a k) ≡ 1)
    (refuse not_in_order 0 (length ports ≤ leaf_of (2 ^ s) nodes i (address_slot s a k))
    (refuse not_in_order 0 (last_port < get_or ports (leaf_of (2 ^ s) nodes i (address_slot s a k)) 0) done))
    (node_checks s nodes ports a k (child_at (2 ^ s) nodes i (address_slot s a k)))))

abbrev pub image_lookup_checks : ℕ → ℕ → List ℕ → List ℕ → ℕ → Verdict
image_lookup_checks w s nodes ports a = stride_check s (node_checks s nodes ports a (w / s) 1)

-- "then 9"
abbrev pub runs_checks : List Run → List ℕ → Verdict
runs_checks rs lent = room_for (length rs * 3) lent

-- "Listing: list checks or 11, then"
abbrev pub list_runs_checks : ℕ → List ℕ → List ℕ → Verdict
list_runs_checks w list lent = list_checks w list (runs_checks (listed w (route_at list) (route_count list)) lent)

abbrev pub table_runs_checks : ℕ → List ℕ → ℕ → List ℕ → Verdict
table_runs_checks w rows n lent = order_checks w rows n (runs_checks (listed w (table_routes w (row_at rows) n) n) lent)
