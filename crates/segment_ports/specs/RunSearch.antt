-- Defines the run that an address lies in, sought among runs in words from one of them on. It is total: past the runs lent, there is one
-- run more to the last of all addresses, and it goes to no port. RULES, "The run listing". Assumes nothing.
use Rattle.std.specs.Prelude.{cond, List, ℕ, zero, suc, ◌+◌, ◌-◌, ◌*◌, ◌/◌, ◌%◌, ◌^◌, leb, ltb, length, get_or}
use Rattle.runs_rules.specs.Runs.{run_size}

abbrev pub run_count : List ℕ → ℕ
run_count runs = length runs / run_size

-- the last address of run c
unfoldable pub run_end : List ℕ → ℕ → ℕ
run_end runs c = cond (ltb c (run_count runs)) (get_or runs (c * run_size + 1) 0) (2 ^ 32 - 1)

-- its port, as an entry of sixteen bits
unfoldable pub run_port : List ℕ → ℕ → ℕ
run_port runs c = cond (ltb c (run_count runs)) (get_or runs (c * run_size + 2) 0 % 65536) 0

-- the first run from c on that does not end before the address; k runs are left
unfoldable pub run_from : List ℕ → ℕ → ℕ → ℕ → ℕ
run_from runs zero c a = c
run_from runs (suc k) c a = cond (ltb (run_end runs c) a) (run_from runs k (c + 1) a) c

abbrev pub run_of : List ℕ → ℕ → ℕ → ℕ
run_of runs c a = run_from runs (run_count runs - c) c a

-- of the entries of neighbouring blocks of 2^shift addresses, from number `block` on, the first whose block begins after the run's end
unfoldable pub past_of : List ℕ → ℕ → ℕ → ℕ → ℕ → ℕ
past_of runs c block shift size =
    cond (leb (block + size) (run_end runs c / 2 ^ shift)) size (run_end runs c / 2 ^ shift + 1 - block)

-- the port of the address, by the runs from c on
abbrev pub port_from : List ℕ → ℕ → ℕ → ℕ
port_from runs c a = run_port runs (run_of runs c a)
