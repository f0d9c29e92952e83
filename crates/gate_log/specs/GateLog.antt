-- What a log is seen as, and what its calls answer.
use Rattle.std.specs.Prelude.{true, nat_le, ◌≡◌, ◌≢◌, ◌⊎◌, ℕ, ◌<◌, ◌≤◌, ◌+◌, ◌-◌, List, Option, Some, None, Result, Ok, Err, length, slice_index, slice_range, if◌then◌else◌, nat_lt, OnOk, IfOk, IfErr, IfSome, IsSome, IsSomeAnd, take, [], ◌∷◌, ◌++◌}
use Rattle.disk_base.specs.Faults.{added, one_more, Rose}
use Rattle.disk_base.specs.Disk.{Images, FileView, LeavesExactly, AtEachMoment, Lasts, CallsUpTo, OnlyReads, IsTorn, overwritten}
use Rattle.gate_log.specs.LogFile.{mark, longest_body, longest_file, contents_of, holds, bad_head, bad_chain, is_open, length_at, next_place, body_at, chain_of, IsRecord, is_body_length, bodies_in, bodies_of, end_place, IsAtRest, IsBeforeOrAfter, IsSameOrOpen, open_record, started_file, start_calls, Walks}
use Rattle.gate_log.specs.declared.device.Gate.{Gate}
use Rattle.gate_log.specs.declared.start.Cursor.{Cursor}
use Rattle.gate_log.specs.declared.fault.LogFault.{LogFault}
use Rattle.gate_log.specs.declared.fault.LogFault.TheVariants.{Fault, Shut, BadHead, BadChain, BadLength, Full, Memory}

-- ---- a log

-- its file, and where its next record will stand, which a log that is shut doesn't say
pub record LogOver (E : Type 0) : Type 0 where
  pub file : E
  pub end : Option ℕ

-- the same by what its file is seen as
pub record LogView : Type 1 where
  pub file : FileView
  pub end : Option ℕ

abbrev pub shown : {E : Type 0} → (E → FileView) → LogOver E → LogView
shown seen log = record { file = seen log.file; end = log.end }

-- A started log of these bodies: its file is at rest with them, its end is behind them, and a crash leaves the file as it is.
pub record IsStarted (images : Images) (end : ℕ) (bodies : List (List ℕ)) (file : List ℕ) : Type 0 where
  pub at_rest : IsAtRest file bodies
  pub end_is : end ≡ end_place bodies
  pub exactly : LeavesExactly file images

-- the log is started, and it has these bodies
abbrev pub HasBodies : LogView → List (List ℕ) → Type 0
HasBodies log bodies = IsSomeAnd log.end (λ end. IsSomeAnd log.file.content (IsStarted log.file.images end bodies))

-- what holds of the bodies of a log that is started over a file that tells
abbrev pub IfStarted : LogView → (List (List ℕ) → Type 0) → Type 0
IfStarted log P = IfSome log.end (λ _. IfSome log.file.content (λ file. P (bodies_of file)))

-- what always holds of a log: while it is started over a file that tells, that file is at rest
abbrev pub IsSettled : FileView → Option ℕ → Type 0
IsSettled file end = IfSome end (λ place. IfSome file.content (λ bytes. IsStarted file.images place (bodies_of bytes) bytes))

-- ---- what every call keeps

-- the count of faults rises exactly where the answer is a fault
abbrev pub CountsFault : {T : Type 0} → ℕ → ℕ → Result T LogFault → Type 0
CountsFault before now (Err Fault) = Rose before now
CountsFault before now _ = now ≡ before

pub record LogCall {T : Type 0} (old new : FileView) (result : Result T LogFault) : Type 0 where
  pub lasts : Lasts old new
  pub counts : CountsFault old.faults new.faults result

-- calls that only read
pub record LogReads {T : Type 0} (old new : FileView) (result : Result T LogFault) : Type 0 where
  pub call : LogCall old new result
  pub only : OnlyReads old new

-- ---- start

-- what a start answers, by what the file says
abbrev pub StartAnswers : {T : Type 0} → Option (List ℕ) → Result T LogFault → Type 0
StartAnswers content (Ok _) = IfSome content (λ file. contents_of file ≡ holds (bodies_of file))
StartAnswers content (Err BadHead) = IfSome content (λ file. contents_of file ≡ bad_head)
StartAnswers content (Err (BadChain place)) = IfSome content (λ file. contents_of file ≡ bad_chain place)
StartAnswers content (Err Fault) = Unit {0}
StartAnswers content (Err Memory) = Unit {0}
StartAnswers content (Err _) = ⊥

-- How a log stands after a start, and that one which doesn't fail writes nothing but at Ok: where memory runs out it
-- is as before, and after each other refusal it is shut.
abbrev pub StartEnds : LogView → LogView → Result (Unit {0}) LogFault → Type 0
StartEnds old new (Ok _) = IsSome new.end
StartEnds old new (Err Fault) = new.end ≡ None
StartEnds old new (Err Memory) = (new.end ≡ old.end) × OnlyReads old.file new.file
StartEnds old new (Err _) = (new.end ≡ None) × OnlyReads old.file new.file

-- A start over a file with these bytes.
pub record StartsWith {T : Type 0} (file : List ℕ) (old new : LogView) (result : Result T LogFault) : Type 0 where
  -- at Ok the log has the bodies that they stand for, these are the bytes of its file, and so many calls were made on it
  pub started : OnOk result (HasBodies new (bodies_of file))
  pub written : OnOk result (new.file.content ≡ Some (started_file file))
  pub counted : OnOk result (new.file.calls ≡ added old.file.calls (start_calls file))
  -- whatever it answers, the file says the same
  pub says : IsSomeAnd new.file.content (IsSameOrOpen file)
  -- and so does what a crash at any moment leaves, if it isn't what one might have left before
  pub any_moment : AtEachMoment old.file new.file (λ image. old.file.images image ⊎ IsSameOrOpen file image)

-- the same where the file tells its bytes
abbrev pub Starts : {T : Type 0} → LogView → LogView → Result T LogFault → Type 0
Starts old new result = IfSome old.file.content (λ file. StartsWith file old new result)

-- ---- a start, record by record

-- How far a start has come in a file with these bytes: behind the mark their chain goes over these bodies up to the
-- cursor's place, and a closed gate that was found there stands inside the file.
pub record HasCome (file : List ℕ) (bodies : List (List ℕ)) (cursor : Cursor) : Type 0 where
  pub len_is : cursor.len ≡ length file
  pub head : 9 < length file → take 8 file ≡ mark
  pub walks : Walks file 8 bodies cursor.place
  pub closed : cursor.is_closed ≡ true → (cursor.place < length file) × (slice_index file cursor.place ≢ 1)

-- a start has come over some bodies of a file, which a crash leaves as it is
pub record IsUnder (cursor : Cursor) (images : Images) (file : List ℕ) : Type 0 where
  pub read : List (List ℕ)
  pub come : HasCome file read cursor
  pub exactly : LeavesExactly file images

-- How many calls of a start lie behind a cursor that has come over so many bodies: it synced and asked for the length,
-- and it read the mark, the gate of each body and the closed one that it found.
abbrev pub calls_before : Cursor → ℕ → ℕ
calls_before cursor count = if nat_le cursor.len 9 then 2 else (if cursor.is_closed then 4 + count else 3 + count)

-- what the beginning of a start answers, by what the file says
abbrev pub BeginAnswers : Option (List ℕ) → Result Cursor LogFault → Type 0
BeginAnswers content (Ok cursor) = IfSome content (λ file. HasCome file [] cursor)
BeginAnswers content (Err BadHead) = IfSome content (λ file. contents_of file ≡ bad_head)
BeginAnswers content (Err Fault) = Unit {0}
BeginAnswers content (Err Memory) = Unit {0}
BeginAnswers content (Err _) = ⊥

-- How a log stands then: want of memory leaves it as it was, and else it is shut. At Ok the cursor keeps where it ended, the
-- start may go on from the cursor, and the log may be left as it was.
abbrev pub BeginEnds : LogView → LogView → Result Cursor LogFault → Type 0
BeginEnds old new (Ok cursor) =
    (new.end ≡ None) × (cursor.before ≡ old.end) × (new.file.calls ≡ added old.file.calls (calls_before cursor 0))
    × IfSome new.file.content (IsUnder cursor new.file.images) × IsSettled new.file cursor.before
BeginEnds old new (Err Memory) = new.end ≡ old.end
BeginEnds old new (Err _) = new.end ≡ None

-- how a cursor goes on, whatever the file tells: over a body that may be one, to a closed gate, or not at all
abbrev pub StepsOn : Cursor → Cursor → Result (Option (ℕ × List ℕ)) LogFault → Type 0
StepsOn old new (Ok (Some (place, body))) =
    (place ≡ old.place) × (1 ≤ length body) × (length body ≤ longest_body) × (new ≡ record old { place = place + 5 + length body }) × (new.place ≤ old.len)
StepsOn old new (Ok None) = new ≡ record old { is_closed = new.is_closed }
StepsOn old new (Err (BadChain place)) = (place ≡ old.place) × (new ≡ old)
StepsOn old new (Err Fault) = new ≡ old
StepsOn old new (Err Memory) = new ≡ old
StepsOn old new (Err _) = ⊥

-- where it has come over these bodies: the next body at its place, or that the file stands for them, or that its chain breaks
abbrev pub ComesOn : List ℕ → List (List ℕ) → Cursor → Result (Option (ℕ × List ℕ)) LogFault → Type 0
ComesOn file read new (Ok (Some (place, body))) = (place ≡ end_place read) × HasCome file (read ++ body ∷ []) new
ComesOn file read new (Ok None) = (contents_of file ≡ holds read) × HasCome file read new
ComesOn file read new (Err (BadChain place)) = contents_of file ≡ bad_chain place
ComesOn file read new (Err _) = Unit {0}

-- a body takes two calls, and its end or a refusal no more
abbrev pub StepCalls : {T : Type 0} → FileView → FileView → Result (Option T) LogFault → Type 0
StepCalls old new (Ok (Some _)) = new.calls ≡ added old.calls 2
StepCalls old new (Ok None) = CallsUpTo 1 old new
StepCalls old new (Err _) = CallsUpTo 2 old new

-- The end of a start over a file with these bytes, of which these bodies were passed. It is as with a start that came so far.
pub record FinishesWith {T : Type 0} (cursor : Cursor) (read : List (List ℕ)) (file : List ℕ) (old new : LogView) (result : Result T LogFault) : Type 0 where
  pub started : OnOk result (HasBodies new (bodies_of file))
  pub written : OnOk result (new.file.content ≡ Some (started_file file))
  pub counted : OnOk result (new.file.calls ≡ added old.file.calls (start_calls file - calls_before cursor (length read)))
  pub says : IsSomeAnd new.file.content (IsSameOrOpen file)
  pub any_moment : AtEachMoment old.file new.file (λ image. old.file.images image ⊎ IsSameOrOpen file image)

-- the same where the file tells and the start has come over these bodies of it
abbrev pub Finishes : {T : Type 0} → Cursor → LogView → LogView → Result T LogFault → Type 0
Finishes cursor old new result = IfSome old.file.content (λ file. (read : List (List ℕ)) → HasCome file read cursor → FinishesWith cursor read file old new result)

-- ---- append

-- why a log that is shut or ends at this place takes no body of so many bytes
abbrev pub refusal_of : ℕ → Option ℕ → Option LogFault
refusal_of count None = Some (if is_body_length count then Shut else BadLength count)
refusal_of count (Some end) =
    if is_body_length count
    then (if nat_lt longest_file (end + 6 + count) then Some (Full end) else None)
    else Some (BadLength count)

-- a call that is refused for this cause changes nothing
abbrev pub IsRefused : {E : Type 0} → Option LogFault → LogOver E → LogOver E → Result ℕ LogFault → Type 0
IsRefused cause old new result = IfSome cause (λ fault. (result ≡ Err fault) × (new ≡ old))

-- What an append answers, and how the log stands then: at Ok it has made four calls, and none where memory ran out.
abbrev pub AppendAnswers : ℕ → LogView → LogView → Result ℕ LogFault → Type 0
AppendAnswers count old new (Ok place) = (old.end ≡ Some place) × (new.end ≡ Some (place + 5 + count)) × (new.file.calls ≡ added old.file.calls 4)
AppendAnswers count old new (Err Fault) = (new.end ≡ None) × CallsUpTo 4 old.file new.file
AppendAnswers count old new (Err Memory) = (new.end ≡ old.end) × (new.file.calls ≡ old.file.calls) × OnlyReads old.file new.file
AppendAnswers count old new (Err fault) = refusal_of count old.end ≡ Some fault

-- An append of a body to a log of these bodies.
pub record AppendsTo {T : Type 0} (bodies : List (List ℕ)) (body : List ℕ) (old new : LogView) (result : Result T LogFault) : Type 0 where
  -- at Ok the log has the body behind those it had, and its record stands over what was there, with a closed gate behind it
  pub added_body : OnOk result (HasBodies new (bodies ++ body ∷ []))
  pub written : OnOk result (IfSome old.file.content (λ was. new.file.content ≡ Some (overwritten was (end_place bodies) (open_record body))))
  -- whatever it answers, the file is a log of the bodies before or after
  pub stands : IsSomeAnd new.file.content (IsBeforeOrAfter bodies body)
  -- and so is what a crash at any moment leaves
  pub any_moment : AtEachMoment old.file new.file (IsBeforeOrAfter bodies body)

-- the same where the log is started and its file tells
abbrev pub Appends : {T : Type 0} → List ℕ → LogView → LogView → Result T LogFault → Type 0
Appends body old new result = IfStarted old (λ bodies. AppendsTo bodies body old new result)

-- ---- read

-- a body that may be one, and the next place, as a read gives them at a place
pub record IsFound (place : ℕ) (found : List ℕ × ℕ) : Type 0 where
  pub not_empty : 1 ≤ length found.0
  pub not_long : length found.0 ≤ longest_body
  pub next_is : found.1 ≡ place + 5 + length found.0

-- what a read at a place answers of a log with this end: over a file that tells, exactly what stands there
abbrev pub ReadAnswers : Option (List ℕ) → Option ℕ → ℕ → Result (List ℕ × ℕ) LogFault → Type 0
ReadAnswers content end place (Ok found) = IsFound place found × IsSomeAnd end (λ e. (found.1 ≤ e) × IfSome content (λ file. IsRecord file e place × (found.0 ≡ body_at file place)))
ReadAnswers content end place (Err Shut) = end ≡ None
ReadAnswers content end place (Err (BadChain at)) = (at ≡ place) × IsSomeAnd end (λ e. IfSome content (λ file. IsRecord file e place → ⊥))
ReadAnswers content end place (Err Fault) = IsSome end
ReadAnswers content end place (Err Memory) = IsSome end
ReadAnswers content end place (Err _) = ⊥

-- the same inside an end that isn't past the end of the file
abbrev pub PlaceAnswers : Option (List ℕ) → ℕ → ℕ → Result (List ℕ × ℕ) LogFault → Type 0
PlaceAnswers content end place (Ok found) = IsFound place found × (found.1 ≤ end) × IfSome content (λ file. end ≤ length file → IsRecord file end place × (found.0 ≡ body_at file place))
PlaceAnswers content end place (Err (BadChain at)) = (at ≡ place) × IfSome content (λ file. end ≤ length file → IsRecord file end place → ⊥)
PlaceAnswers content end place (Err Fault) = Unit {0}
PlaceAnswers content end place (Err Memory) = Unit {0}
PlaceAnswers content end place (Err _) = ⊥

-- a read that is answered by Ok makes two calls, and none makes more
abbrev pub ReadCalls : {T : Type 0} → FileView → FileView → Result T LogFault → Type 0
ReadCalls old new (Ok _) = new.calls ≡ added old.calls 2
ReadCalls old new (Err _) = CallsUpTo 2 old new

-- a read finds this body and this next place, if the file doesn't fail and there is memory
abbrev pub FindsBody : List ℕ → ℕ → Result (List ℕ × ℕ) LogFault → Type 0
FindsBody body next (Ok found) = (found.0 ≡ body) × (found.1 ≡ next)
FindsBody body next (Err Fault) = Unit {0}
FindsBody body next (Err Memory) = Unit {0}
FindsBody body next (Err _) = ⊥

-- each body is found at its place
abbrev pub FindsInOrder : List (List ℕ) → ℕ → Result (List ℕ × ℕ) LogFault → Type 0
FindsInOrder bodies place result = (before : List (List ℕ)) (body : List ℕ) (after : List (List ℕ)) →
    bodies ≡ before ++ body ∷ after → place ≡ end_place before → FindsBody body (end_place (before ++ body ∷ [])) result

-- ---- the steps

-- what a log reads at the place of a record
pub record IsGateAt (file : List ℕ) (place : ℕ) (gate : Gate) : Type 0 where
  pub gate_is : gate.is_open ≡ is_open file place
  pub count_is : place + 5 ≤ length file → gate.count ≡ length_at file place
  pub no_count : length file < place + 5 → gate.count ≡ 0

-- what a log finds at a place of its chain: a closed gate, or a record and the next place
abbrev pub FindsAt : List ℕ → ℕ → ℕ → Option ℕ → Type 0
FindsAt file end place None = slice_index file place ≢ 1
FindsAt file end place (Some next) = IsRecord file end place × (next ≡ next_place file place)

-- an open gate with no whole record
abbrev pub IsBroken : List ℕ → ℕ → ℕ → Type 0
IsBroken file end place = (slice_index file place ≡ 1) × (IsRecord file end place → ⊥)

-- what stands at a place before an end of a file that is no shorter
abbrev pub NextAnswers : Option (List ℕ) → ℕ → ℕ → Result (Option ℕ) LogFault → Type 0
NextAnswers content end place (Ok found) =
    IfSome found (λ next. (place + 6 ≤ next) × (next ≤ end) × (next ≤ place + 5 + longest_body))
    × IfSome content (λ file. end ≤ length file → FindsAt file end place found)
NextAnswers content end place (Err (BadChain at)) = (at ≡ place) × IfSome content (λ file. end ≤ length file → IsBroken file end place)
NextAnswers content end place (Err Fault) = Unit {0}
NextAnswers content end place (Err _) = ⊥

-- the chain holds bodies and ends at a gate that isn't open
pub record EndsAt (file : List ℕ) (end : ℕ) : Type 0 where
  pub chain : chain_of file ≡ holds (bodies_in (chain_of file))
  pub end_is : end ≡ end_place (bodies_in (chain_of file))
  pub closed : slice_index file end ≢ 1

-- how many gates of a chain are read that ends at this place: those of its records and the closed one, where the file has it
abbrev pub gates_read : List ℕ → ℕ → ℕ
gates_read file end = length (bodies_in (chain_of file)) + (if nat_lt end (length file) then 1 else 0)

-- The chain was followed from behind these bodies to its end. Each gate is read by one call.
pub record FollowsTo (read : List (List ℕ)) (file : List ℕ) (end : ℕ) (old new : FileView) : Type 0 where
  pub inside : end ≤ length file
  pub ends : EndsAt file end
  pub few : length read ≤ gates_read file end
  pub counted : new.calls ≡ added old.calls (gates_read file end - length read)

-- where the chain of a file of so many bytes ends, followed from a place to which it goes over these bodies
abbrev pub EndAnswers : ℕ → ℕ → FileView → FileView → Result ℕ LogFault → Type 0
EndAnswers from len old new (Ok end) = IfSome old.content (λ file. len ≡ length file → (read : List (List ℕ)) → Walks file 8 read from → FollowsTo read file end old new)
EndAnswers from len old new (Err (BadChain place)) = IfSome old.content (λ file. len ≡ length file → (read : List (List ℕ)) → Walks file 8 read from → chain_of file ≡ bad_chain place)
EndAnswers from len old new (Err Fault) = Unit {0}
EndAnswers from len old new (Err _) = ⊥

-- so many bytes from a place on, or nothing where the file ends before them
abbrev pub PieceAnswers : ℕ → ℕ → FileView → FileView → Result (Option (List ℕ)) LogFault → Type 0
PieceAnswers at count old new (Ok found) =
    (new.calls ≡ one_more old.calls) × IfSome found (λ piece. length piece ≡ count)
    × IfSome old.content (λ file. at + count ≤ length file → IsSomeAnd found (λ piece. piece ≡ slice_range file at (at + count)))
PieceAnswers at count old new (Err Fault) = new.calls ≡ one_more old.calls
PieceAnswers at count old new (Err Memory) = new.calls ≡ old.calls
PieceAnswers at count old new (Err _) = ⊥

-- a call that writes makes so many calls on the device, none more where one fails, and none where memory runs out
abbrev pub WriteAnswers : {T : Type 0} → ℕ → FileView → FileView → Result T LogFault → Type 0
WriteAnswers count old new (Ok _) = new.calls ≡ added old.calls count
WriteAnswers count old new (Err Fault) = CallsUpTo count old new
WriteAnswers count old new (Err Memory) = (new.calls ≡ old.calls) × OnlyReads old new
WriteAnswers count old new (Err _) = ⊥

-- what holds where the file hasn't failed
abbrev pub UnlessFault : LogFault → Type 0 → Type 0
UnlessFault Fault claim = Unit {0}
UnlessFault _ claim = claim

-- A write at a place of a file with these bytes, and a sync: at Ok the bytes stand there for good, and a crash at any
-- moment leaves a file in which any part of the write was done.
pub record IsThrough {T E : Type 0} (at : ℕ) (bytes was : List ℕ) (old new : FileView) (result : Result T E) : Type 0 where
  pub settled : OnOk result ((new.content ≡ Some (overwritten was at bytes)) × LeavesExactly (overwritten was at bytes) new.images)
  pub torn : IsSomeAnd new.content (IsTorn at (length bytes) was)
  pub moments : LeavesExactly was old.images → AtEachMoment old new (IsTorn at (length bytes) was)

abbrev pub WritesThrough : {T E : Type 0} → ℕ → List ℕ → FileView → FileView → Result T E → Type 0
WritesThrough at bytes old new result = IfSome old.content (λ was. IsThrough at bytes was old new result)

-- The file is settled, and how long it is. That takes two calls.
abbrev pub SettleAnswers : FileView → FileView → Result ℕ LogFault → Type 0
SettleAnswers old new (Ok len) = (new.calls ≡ added old.calls 2) × IfSome old.content (λ bytes. (len ≡ length bytes) × LeavesExactly bytes new.images)
SettleAnswers old new (Err Fault) = Unit {0}
SettleAnswers old new (Err Memory) = Unit {0}
SettleAnswers old new (Err _) = ⊥

-- The file is settled, how long it is, and that it begins with the mark where it is long enough. The mark is read by one call.
abbrev pub OpenAnswers : FileView → FileView → Result ℕ LogFault → Type 0
OpenAnswers old new (Ok len) =
    (new.calls ≡ added old.calls (if nat_le len 9 then 2 else 3))
    × IfSome old.content (λ file. (len ≡ length file) × (9 < length file → take 8 file ≡ mark) × LeavesExactly file new.images)
OpenAnswers old new (Err BadHead) = IfSome old.content (λ file. contents_of file ≡ bad_head)
OpenAnswers old new (Err Fault) = Unit {0}
OpenAnswers old new (Err Memory) = Unit {0}
OpenAnswers old new (Err _) = ⊥

-- the write of a start over a file with these bytes, which makes it the file of a log that ends at this place
pub record WritesStart {T E : Type 0} (file : List ℕ) (end : ℕ) (old new : FileView) (result : Result T E) : Type 0 where
  pub started : OnOk result (IsSomeAnd new.content (IsStarted new.images end (bodies_of file)))
  pub written : OnOk result (new.content ≡ Some (started_file file))
  pub says : IsSomeAnd new.content (IsSameOrOpen file)
  pub moments : LeavesExactly file old.images → AtEachMoment old new (IsSameOrOpen file)

abbrev pub StartWrites : {T E : Type 0} → ℕ → FileView → FileView → Result T E → Type 0
StartWrites end old new result = IfSome old.content (λ file. WritesStart file end old new result)

-- a start over a file with these bytes, in which so many calls were made before; it answers where the log ends
pub record IsStart (before : ℕ) (file : List ℕ) (old new : FileView) (result : Result ℕ LogFault) : Type 0 where
  pub started : IfOk result (λ end. IsSomeAnd new.content (IsStarted new.images end (bodies_of file)))
  pub written : OnOk result (new.content ≡ Some (started_file file))
  pub counted : OnOk result (new.calls ≡ added old.calls (start_calls file - before))
  pub says : IsSomeAnd new.content (IsSameOrOpen file)
  pub moments : AtEachMoment old new (λ image. old.images image ⊎ IsSameOrOpen file image)

-- What a start answers, that it writes nothing where it gives up for another cause than a fault, and what it does to a
-- file that tells.
pub record StartsOver (old new : FileView) (result : Result ℕ LogFault) : Type 0 where
  pub answer : StartAnswers old.content result
  pub unwritten : IfErr result (λ fault. UnlessFault fault (OnlyReads old new))
  pub told : IfSome old.content (λ file. IsStart 0 file old new result)

-- the same from a cursor on
pub record FinishesOver (cursor : Cursor) (old new : FileView) (result : Result ℕ LogFault) : Type 0 where
  pub answer : StartAnswers old.content result
  pub unwritten : IfErr result (λ fault. UnlessFault fault (OnlyReads old new))
  pub told : IfSome old.content (λ file. (read : List (List ℕ)) → HasCome file read cursor → IsStart (calls_before cursor (length read)) file old new result)

-- an append of a body at a place, over a file with these bytes and bodies
pub record IsAppend {T E : Type 0} (bodies : List (List ℕ)) (body : List ℕ) (place : ℕ) (was : List ℕ) (old new : FileView) (result : Result T E) : Type 0 where
  pub appended : OnOk result (IsSomeAnd new.content (IsStarted new.images (place + 5 + length body) (bodies ++ body ∷ [])))
  pub written : OnOk result (new.content ≡ Some (overwritten was place (open_record body)))
  pub stands : IsSomeAnd new.content (IsBeforeOrAfter bodies body)
  pub moments : AtEachMoment old new (IsBeforeOrAfter bodies body)

abbrev pub AppendsAt : {T E : Type 0} → ℕ → List ℕ → FileView → FileView → Result T E → Type 0
AppendsAt place body old new result = IfSome old.content (λ was. IsAppend (bodies_of was) body place was old new result)
