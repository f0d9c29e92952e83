-- What the calls of a feed do.
use Rattle.std.specs.Prelude.{ℕ, ◌≡◌, ◌+◌, ◌<◌, ◌≤◌, Bool, true, false, nat_lt, List, [], ◌++◌, length, take, drop, Option, Some, None, IfSome, IsSome, IsSomeAnd, option_map, Result, Ok, Err, IfOk, OnOk, OnErr, IsErrOf}
use Rattle.std.specs.List.{position_or_len}
use Rattle.disk_base.specs.Faults.{Rose}
use Rattle.disk_base.specs.Streams.{SourceView}
use Rattle.script_lines.specs.Lines.{Line, Buffered, content, first_line, after_line, is_too_long, is_line_feed, longest_line, piece_size, HasNoEnd, StillComes, to_come}
use Rattle.script_lines.specs.declared.feed.LineFault.{LineFault}
use Rattle.script_lines.specs.declared.feed.LineFault.TheVariants as faults

-- a feed: what it has pulled and not given yet, and its source
pub record FeedView : Type 0 where
  pub buffer : Buffered
  pub source : SourceView

abbrev pub feed_of : Buffered → SourceView → FeedView
feed_of buffer source = record { buffer = buffer; source = source }

-- the input that is to come, where its source tells what it has left
abbrev pub comes : FeedView → Option (List ℕ)
comes feed = to_come feed.buffer feed.source.left

-- What each call keeps: an end that the source said holds on, and it isn't asked again; the source that said it has nothing left; it
-- goes on telling and promising what it did, and its faults never fall.
pub record KeepsFeed (old new : FeedView) : Type 0 where
  pub over_stays : old.buffer.is_over ≡ true → (new.buffer.is_over ≡ true) × (new.source.left ≡ old.source.left)
  pub drained : old.buffer.is_over ≡ false → new.buffer.is_over ≡ true → IsSome old.source.left → new.source.left ≡ Some []
  pub told : IsSome old.source.left → IsSome new.source.left
  pub never_falls : old.source.faults ≤ new.source.faults
  pub quiet : new.source.is_quiet ≡ old.source.is_quiet

-- These bytes are what the next line of the input says. It isn't too long, and what stands behind it is to come.
pub record Gives (bytes : List ℕ) (old new : FeedView) (input : List ℕ) : Type 0 where
  pub line : Line
  pub next : first_line input ≡ Some line
  pub says : content line ≡ bytes
  pub short : is_too_long line ≡ false
  pub behind : comes new ≡ Some (after_line input)
  pub not_over : new.buffer.is_over ≡ false → (old.buffer.is_over ≡ false) × (line.is_ended ≡ true)

-- the next line of the input is too long
abbrev pub NextIsTooLong : List ℕ → Type 0
NextIsTooLong input = IsSomeAnd (first_line input) (λ line. is_too_long line ≡ true)

-- What a call that is to give the next line did, by its answer. No error takes anything from what is to come; a pull that failed left no
-- whole line behind, and a line that is too long is held as far as that shows.
abbrev pub GivesLine : Result (Option (List ℕ)) LineFault → FeedView → FeedView → Type 0
GivesLine (Ok (Some bytes)) old new = IfSome (comes old) (Gives bytes old new)
GivesLine (Ok None) old new = IfSome (comes old) (λ input. input ≡ []) × (new.buffer.bytes ≡ []) × (new.buffer.is_over ≡ true)
GivesLine (Err faults.Read) old new =
    StillComes (comes old) (comes new) × Rose old.source.faults new.source.faults
    × (old.buffer.is_over ≡ false) × (new.buffer.is_over ≡ false) × HasNoEnd new.buffer.bytes
GivesLine (Err faults.TooLong) old new =
    StillComes (comes old) (comes new) × IfSome (comes old) NextIsTooLong × (longest_line < position_or_len is_line_feed new.buffer.bytes)
GivesLine (Err faults.Memory) old new = StillComes (comes old) (comes new)

-- so much is held at most
abbrev pub IsBounded : FeedView → Type 0
IsBounded feed = length feed.buffer.bytes ≤ longest_line + piece_size

-- What moves from a piece to a line: the bytes up to the first line feed, which is passed over; nothing where the line would be too long.
pub record Gathers (line rest line' rest' : List ℕ) (result : Result Bool LineFault) : Type 0 where
  pub ended : IfOk result (λ ended. ended ≡ nat_lt (position_or_len is_line_feed rest) (length rest))
  pub gathered : OnOk result (line' ≡ line ++ take (position_or_len is_line_feed rest) rest)
  pub behind : OnOk result (rest' ≡ drop (position_or_len is_line_feed rest + 1) rest)
  pub too_long : IsErrOf result faults.TooLong → longest_line < position_or_len is_line_feed (line' ++ rest')
  pub no_read : IsErrOf result faults.Read → ⊥
  pub err : OnErr result ((line' ≡ line) × (rest' ≡ rest))

-- What a pull brings to an empty piece; nothing at the end of the input, and where it failed.
pub record Refills (rest : List ℕ) (old new : SourceView) (result : Result Bool LineFault) : Type 0 where
  pub pulled : OnOk result (StillComes old.left (option_map (λ more. rest ++ more) new.left))
  pub some : IfOk result (λ some. some ≡ nat_lt 0 (length rest))
  pub end : IfOk result (λ some. IfSome old.left (λ left. some ≡ false → left ≡ []))
  pub drained : IfOk result (λ some. some ≡ false → IsSome old.left → new.left ≡ Some [])
  pub empty : OnErr result ((rest ≡ []) × (new.left ≡ old.left))
  pub read : IsErrOf result faults.Read → Rose old.faults new.faults
  pub no_too_long : IsErrOf result faults.TooLong → ⊥

-- Where no end of a line was found, what is to come is the same.
pub record FindsNone (old new : FeedView) (result : Result Bool LineFault) : Type 0 where
  pub kept : OnErr result (StillComes (comes old) (comes new))
  pub too_long : IsErrOf result faults.TooLong → longest_line < position_or_len is_line_feed new.buffer.bytes
  pub read : IsErrOf result faults.Read → Rose old.source.faults new.source.faults
  pub between : IsErrOf result faults.Read → (new.buffer.is_over ≡ false) × HasNoEnd new.buffer.bytes
