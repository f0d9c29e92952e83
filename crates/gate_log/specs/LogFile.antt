-- What the bytes of a log file say.
--
-- A file begins with a mark of eight bytes. From place 8 on it is a chain of records: at a record's place stands a gate byte,
-- behind it the length of the body in four bytes, the most significant first, and then the body. The next place is the one
-- behind the body. A gate is open where its byte is 1.
use Rattle.std.specs.Prelude.{◌≡◌, ◌≢◌, ◌⊎◌, ◌<◌, ◌≤◌, ℕ, suc, zero, ◌+◌, ◌^◌, Bool, ◌&&◌, ◌==◌, nat_le, nat_lt, if◌then◌else◌, List, [], ◌∷◌, ◌++◌, length, take, drop, slice_index, slice_range, sum_by, bytes_eq}
use Rattle.std.specs.Int.{w32, from_be_bytes, to_be_bytes}

-- the text BLOBLOG1
abbrev pub mark : List ℕ
mark = 66 ∷ 76 ∷ 79 ∷ 66 ∷ 76 ∷ 79 ∷ 71 ∷ 49 ∷ []

-- a list of bodies, a file that doesn't begin with the mark, or an open gate at a place with no whole record behind it
pub data Contents : Type 0 where
  holds : List (List ℕ) → Contents
  bad_head : Contents
  bad_chain : ℕ → Contents

-- past the end of the file no gate is open
abbrev pub is_open : List ℕ → ℕ → Bool
is_open bytes place = slice_index bytes place == 1

-- the length that stands behind the gate at a place
unfoldable pub length_at : List ℕ → ℕ → ℕ
length_at bytes place = from_be_bytes w32 (slice_range bytes (place + 1) (place + 5))

abbrev pub next_place : List ℕ → ℕ → ℕ
next_place bytes place = place + 5 + length_at bytes place

abbrev pub body_at : List ℕ → ℕ → List ℕ
body_at bytes place = slice_range bytes (place + 5) (next_place bytes place)

-- how many bytes a body has at most, and how many a file
abbrev pub longest_body : ℕ
longest_body = 4194400

abbrev pub longest_file : ℕ
longest_file = 2 ^ 40

-- a body isn't empty and not too long
abbrev pub is_body_length : ℕ → Bool
is_body_length count = nat_le 1 count && nat_le count longest_body

-- the record at a place has a body's length and ends inside the first `end` bytes
abbrev pub is_whole : List ℕ → ℕ → ℕ → Bool
is_whole bytes end place = is_body_length (length_at bytes place) && nat_le (next_place bytes place) end

-- these contents with one body more in front
abbrev pub preceded_by : List ℕ → Contents → Contents
preceded_by body (holds bodies) = holds (body ∷ bodies)
preceded_by body bad_head = bad_head
preceded_by body (bad_chain place) = bad_chain place

-- what the chain from a place on says, followed over so many records at most
unfoldable pub chain_from : ℕ → List ℕ → ℕ → Contents
chain_from zero bytes place = holds []
chain_from (suc records) bytes place =
    if is_open bytes place
    then (if is_whole bytes (length bytes) place then preceded_by (body_at bytes place) (chain_from records bytes (next_place bytes place)) else bad_chain place)
    else holds []

-- no file has as many records as bytes
abbrev pub chain_of : List ℕ → Contents
chain_of bytes = chain_from (length bytes) bytes 8

-- a file of at most nine bytes is an empty log
unfoldable pub contents_of : List ℕ → Contents
contents_of bytes =
    if nat_le (length bytes) 9
    then holds []
    else (if bytes_eq (take 8 bytes) mark then chain_of bytes else bad_head)

-- the file stands for these bodies
abbrev pub StandsFor : List ℕ → List (List ℕ) → Type 0
StandsFor file bodies = contents_of file ≡ holds bodies

-- the bodies of a file that stands for some
abbrev pub bodies_in : Contents → List (List ℕ)
bodies_in (holds bodies) = bodies
bodies_in bad_head = []
bodies_in (bad_chain place) = []

abbrev pub bodies_of : List ℕ → List (List ℕ)
bodies_of file = bodies_in (contents_of file)

-- how many bytes the record of a body takes
abbrev pub record_length : List ℕ → ℕ
record_length body = 5 + length body

-- where the records of these bodies end
abbrev pub end_place : List (List ℕ) → ℕ
end_place bodies = 8 + sum_by record_length bodies

-- a closed gate stands inside the file behind the records of these bodies
pub record IsAtRest (file : List ℕ) (bodies : List (List ℕ)) : Type 0 where
  pub head : take 8 file ≡ mark
  pub stands : StandsFor file bodies
  pub inside : end_place bodies < length file
  pub closed : slice_index file (end_place bodies) ≢ 1

-- a whole record stands at the place behind an open gate, inside the first `end` bytes
pub record IsRecord (file : List ℕ) (end place : ℕ) : Type 0 where
  pub open_gate : slice_index file place ≡ 1
  pub not_empty : 1 ≤ length_at file place
  pub not_long : length_at file place ≤ longest_body
  pub inside : next_place file place ≤ end

-- the chain goes from a place over these bodies up to another place
abbrev pub Walks : List ℕ → ℕ → List (List ℕ) → ℕ → Type 0
Walks bytes place [] end = place ≡ end
Walks bytes place (body ∷ bodies) end = IsRecord bytes (length bytes) place × (body ≡ body_at bytes place) × Walks bytes (next_place bytes place) bodies end

-- behind the gate of a record: the length of its body, the body and a closed gate, and then other bytes
abbrev pub record_behind : List ℕ → List ℕ → List ℕ
record_behind body rest = to_be_bytes w32 (length body) ++ (body ++ 0 ∷ rest)

-- the file is at rest, and behind its closed gate the record of a body stands whole
pub record IsStaged (file : List ℕ) (bodies : List (List ℕ)) (body : List ℕ) : Type 0 where
  pub at_rest : IsAtRest file bodies
  pub rest : List ℕ
  pub behind : drop (end_place bodies + 1) file ≡ record_behind body rest

-- No gate is missing behind the records: the file is an empty log's of at most nine bytes, or it goes on behind them.
-- Each file that a log has written is so.
abbrev pub HasGate : List ℕ → Type 0
HasGate file = (length file ≤ 9) ⊎ (end_place (bodies_of file) < length file)

-- the file of a log of these bodies, as a crash may leave it too: it stands for them, and no gate is missing behind them
pub record IsLogOf (file : List ℕ) (bodies : List (List ℕ)) : Type 0 where
  pub stands : StandsFor file bodies
  pub gate : HasGate file

-- a file is a log of the bodies, without one more or with it at the end
abbrev pub IsBeforeOrAfter : List (List ℕ) → List ℕ → List ℕ → Type 0
IsBeforeOrAfter bodies body file = IsLogOf file bodies ⊎ IsLogOf file (bodies ++ body ∷ [])

-- the record of a body with its gate open, and a closed gate behind it
abbrev pub open_record : List ℕ → List ℕ
open_record body = 1 ∷ record_behind body []

-- What a start may turn a file into while it writes: one that says the same. Where the gate behind the records was
-- missing, a write of it that was cut short may have left an open one with no record.
pub record IsSameOrOpen (file image : List ℕ) : Type 0 where
  pub same : HasGate file → (contents_of image ≡ contents_of file) × HasGate image
  pub same_or_open : (contents_of image ≡ contents_of file) ⊎ (contents_of image ≡ bad_chain (length file))

-- What a start that answers Ok makes of a file: the head of an empty log where it has at most nine bytes, and else what
-- it was, with a closed gate behind it where its records end with it.
abbrev pub started_file : List ℕ → List ℕ
started_file file =
    if nat_le (length file) 9
    then mark ++ 0 ∷ []
    else (if nat_lt (end_place (bodies_of file)) (length file) then file else file ++ 0 ∷ [])

-- How many calls on the device a start makes that answers Ok: it syncs and asks for the length. Then it writes the head
-- and syncs, or it reads the mark and each gate, and where none stands behind the records it writes one and syncs.
abbrev pub start_calls : List ℕ → ℕ
start_calls file =
    if nat_le (length file) 9
    then 4
    else (if nat_lt (end_place (bodies_of file)) (length file) then 4 + length (bodies_of file) else 5 + length (bodies_of file))
