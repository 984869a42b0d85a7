-- Defines numbers and addresses as text, byte by byte: RULES, "Program runs". Assumes nothing.
use Rattle.std.specs.Prelude.{cond, List, [], ◌∷◌, ◌++◌, ℕ, zero, suc, ◌+◌, ◌/◌, ◌%◌, ltb}

abbrev pub newline : List ℕ
newline = 10 ∷ []

abbrev pub space : List ℕ
space = 32 ∷ []

abbrev pub dot : List ℕ
dot = 46 ∷ []

-- the digits '0' to '9' are the bytes 48 to 57
abbrev pub digit : ℕ → List ℕ
digit d = (48 + d) ∷ []

-- a number in decimal, without leading zeros, in k digits at most
unfoldable pub decimal : ℕ → ℕ → List ℕ
decimal zero x = []
decimal (suc k) x = cond (ltb x 10) (digit x) (decimal k (x / 10) ++ digit (x % 10))

-- a 32-bit number has ten digits at most
abbrev pub most_digits : ℕ
most_digits = 10

abbrev pub numeral : ℕ → List ℕ
numeral x = decimal most_digits x

-- the bytes of a number in decimal with dots between them, the most significant first: the last byte, and k before it
unfoldable pub dotted : ℕ → ℕ → List ℕ
dotted zero a = numeral a
dotted (suc k) a = dotted k (a / 256) ++ dot ++ numeral (a % 256)

-- an address has four bytes
abbrev pub address : ℕ → List ℕ
address a = dotted 3 a

-- "255.255.255.255"
abbrev pub address_room : ℕ
address_room = 15
