-- A session: for each command a turn, from the state that the turns before it left; and what of it is handed out.
use Rattle.std.specs.Prelude.{◌≡◌, ℕ, ◌+◌, ◌⊎◌, if◌then◌else◌, Bool, ◌||◌, ◌==◌, nat_lt, List, [], ◌∷◌, ◌++◌, length, map, take, slice_get, Option, Some, None, is_some, is_none}
use Rattle.std.specs.Str.{bytes_eq}
use Rattle.std.specs.Map.{lookup}
use Rattle.code_mode.specs.declared.mode.Mode.{Mode}
use Rattle.code_mode.specs.declared.stripe.TheConstants.{BLOB_LIMIT}
use Rattle.code_mode.specs.declared.payload.Payload.TheVariants as payloads
use Rattle.code_mode.specs.Mode.{total_count}
use Rattle.code_mode.specs.Payload.{payload_bytes}
use Rattle.node_runner.specs.declared.command.Body.{Body}
use Rattle.node_runner.specs.declared.command.Body.TheVariants as bodies
use Rattle.node_runner.specs.declared.command.Command.{Command}
use Rattle.node_runner.specs.declared.command.Command.TheVariants as commands
use Rattle.node_runner.specs.declared.reply.Refusal.{Refusal}
use Rattle.node_runner.specs.declared.reply.Refusal.TheVariants as causes
use Rattle.node_runner.specs.declared.reply.LineReply.{LineReply}
use Rattle.node_runner.specs.declared.reply.LineReply.TheVariants as replies
use Rattle.node_runner.specs.declared.session.Spot.{Spot}
use Rattle.node_runner.specs.declared.session.Lost.{Lost}
use Rattle.node_runner.specs.declared.session.Said.{Said}
use Rattle.node_runner.specs.declared.session.Past.{Past}
use Rattle.node_runner.specs.declared.session.Session.{Session}

-- the most disks that a store has
abbrev pub most_disks : ℕ
most_disks = 64

-- the most bytes of an object, which is one blob
abbrev pub largest_object : ℕ
largest_object = BLOB_LIMIT

-- the number of the one volume
abbrev pub first_volume : ℕ
first_volume = 1

-- what the put of an object carried, and the number of its blob
pub record Object : Type 0 where
  pub bid : ℕ
  pub bytes : List ℕ

-- What is known between two commands: how many disks there are, the mode of the volume, how many blob numbers were given in it, and the
-- objects by name, in order of put.
pub record State : Type 0 where
  pub disks : Option ℕ
  pub volume : Option Mode
  pub bids : ℕ
  pub objects : List (List ℕ × Object)

-- before the first command
abbrev pub fresh : State
fresh = record { disks = None; volume = None; bids = 0; objects = [] }

-- the bytes that a put carries
abbrev pub bytes_of : Body → List ℕ
bytes_of (bodies.Plain bytes) = bytes
bytes_of (bodies.Fill seed len) = payload_bytes (payloads.Fill seed len)

-- how many they are
abbrev pub size_of : Body → ℕ
size_of (bodies.Plain bytes) = length bytes
size_of (bodies.Fill seed len) = len

-- the object of this name
abbrev pub named : State → List ℕ → Option Object
named state name = lookup (bytes_eq name) state.objects

-- the number of the next blob
abbrev pub next_bid : State → ℕ
next_bid state = state.bids + 1

-- how many disks there are
abbrev pub disk_count : Option ℕ → ℕ
disk_count (Some count) = count
disk_count None = 0

-- what stands beside the first test that holds
abbrev pub first_that_holds : List (Bool × Refusal) → Option Refusal
first_that_holds [] = None
first_that_holds (test ∷ tests) = if test.0 then Some test.1 else first_that_holds tests

-- why the disks aren't taken
abbrev pub disks_refusal : State → ℕ → Option Refusal
disks_refusal state count =
    first_that_holds ((is_some state.disks, causes.Given (disk_count state.disks)) ∷ ((count == 0) || nat_lt most_disks count, causes.Limit) ∷ [])

-- why the volume isn't made
abbrev pub volume_refusal : State → Mode → Option Refusal
volume_refusal state mode =
    let have = disk_count state.disks in
    first_that_holds ((is_some state.volume, causes.Limit) ∷ (nat_lt have (total_count mode), causes.FewDisks have (total_count mode)) ∷ [])

-- why an object isn't put
abbrev pub put_refusal : State → List ℕ → ℕ → Option Refusal
put_refusal state name size =
    first_that_holds ((size == 0, causes.Empty) ∷ (nat_lt largest_object size, causes.TooLarge) ∷ (is_some (named state name), causes.NameTaken) ∷ (is_none state.volume, causes.NoVolume) ∷ [])

-- why there is no object to get
abbrev pub get_refusal : Option Object → Option Refusal
get_refusal found = first_that_holds ((is_none found, causes.NoName) ∷ [])

-- the bytes of an object
abbrev pub bytes_in : Option Object → List ℕ
bytes_in (Some object) = object.bytes
bytes_in None = []

-- the object that a put enters: what the put carried, under the next number
abbrev pub object_of : State → Body → Object
object_of state body = record { bid = next_bid state; bytes = bytes_of body }

-- the state with an object more, whose number is given
abbrev pub with_object : State → List ℕ → Object → State
with_object state name object = record state { bids = next_bid state; objects = state.objects ++ (name, object) ∷ [] }

-- a command that is refused changes nothing
abbrev pub Unless : Option Refusal → Command → State → LineReply → State → Type 0 → Type 0
Unless (Some cause) command old reply new done = (reply ≡ replies.Refused command cause) × (new ≡ old)
Unless None command old reply new done = done

-- A command, its reply, and the states before and behind it.
abbrev pub Answers : State → Command → LineReply → State → Type 0
Answers old (commands.Disks count) reply new =
    Unless (disks_refusal old count) (commands.Disks count) old reply new ((reply ≡ replies.Disks count) × (new ≡ record old { disks = Some count }))
Answers old (commands.Volume mode) reply new =
    Unless (volume_refusal old mode) (commands.Volume mode) old reply new ((reply ≡ replies.Volume first_volume mode) × (new ≡ record old { volume = Some mode }))
Answers old (commands.Put name body) reply new =
    Unless (put_refusal old name (size_of body)) (commands.Put name body) old reply new
    ((reply ≡ replies.Put name first_volume (next_bid old) (size_of body)) × (new ≡ with_object old name (object_of old body)))
Answers old (commands.Get name) reply new =
    Unless (get_refusal (named old name)) (commands.Get name) old reply new ((reply ≡ replies.Got name (bytes_in (named old name))) × (new ≡ old))

-- nothing was done
abbrev pub nothing_said : Said
nothing_said = record { own = []; lost = None }

-- a command, the places of the entries that it added itself, what was lost, and its reply
pub record Turn : Type 0 where
  pub command : Command
  pub own : List Spot
  pub lost : Option Lost
  pub reply : LineReply

-- no command adds an entry or loses anything yet
abbrev pub Does : State → Command → List Spot → Option Lost → LineReply → State → Type 0
Does old command [] None reply new = Answers old command reply new
Does old command own lost reply new = ⊥

-- a turn, and the states before and behind it
abbrev pub IsTurn : State → Turn → State → Type 0
IsTurn old turn new = Does old turn.command turn.own turn.lost turn.reply new

-- turns, one behind the other
abbrev pub AreTurns : State → List Turn → State → Type 0
AreTurns old [] new = new ≡ old
AreTurns old (turn ∷ turns) new = (next : State) × IsTurn old turn next × AreTurns next turns new

abbrev pub commands_of : List Turn → List Command
commands_of [] = []
commands_of (turn ∷ turns) = turn.command ∷ commands_of turns

-- what is said of a turn: its command is its line's, and its reply is printed
abbrev pub said_of : Turn → Said
said_of turn = record { own = turn.own; lost = turn.lost }

-- the volumes that were made
abbrev pub pasts_of : State → List Past
pasts_of state = if is_some state.volume then record { vid = first_volume } ∷ [] else []

-- a session as it is handed out, where these things are said and this state was reached
abbrev pub handed_out : State → List Said → Session
handed_out state saids = record { pasts = pasts_of state; turns = saids }

-- The session of these turns: they lead from nothing to its state.
pub record IsSession (session : Session) (turns : List Turn) : Type 0 where
  pub state : State
  pub are_turns : AreTurns fresh turns state
  pub is : session ≡ handed_out state (map said_of turns)

-- A command that was begun and broke off: it did nothing, or all that it does, but has no text. What it said is kept.
abbrev pub BreaksOff : State → Command → Said → State → Type 0
BreaksOff old command said new = ((said ≡ nothing_said) × (new ≡ old)) ⊎ ((reply : LineReply) × Does old command said.own said.lost reply new)

-- The session of these turns and of one more, which was begun for this command and broke off.
pub record IsBrokenSession (session : Session) (turns : List Turn) (command : Command) : Type 0 where
  pub before : State
  pub are_turns : AreTurns fresh turns before
  pub last : Said
  pub state : State
  pub breaks : BreaksOff before command last state
  pub is : session ≡ handed_out state (map said_of turns ++ last ∷ [])

-- what a name stands for behind a turn: a put of it that was done enters the bytes that the put carried
abbrev pub entered_by : List ℕ → Command → LineReply → Option (List ℕ) → Option (List ℕ)
entered_by name (commands.Put put body) (replies.Put done vid bid size) before = if bytes_eq name put then Some (bytes_of body) else before
entered_by name command reply before = before

abbrev pub entered_from : List ℕ → Option (List ℕ) → List Turn → Option (List ℕ)
entered_from name before [] = before
entered_from name before (turn ∷ turns) = entered_from name (entered_by name turn.command turn.reply before) turns

-- the bytes that the last put of this name carried that was done in these turns, with no deletion since
abbrev pub last_put : List Turn → List ℕ → Option (List ℕ)
last_put turns name = entered_from name None turns

-- No other bytes: each `got` line of a session shows the bytes that the last put of its name carried.
abbrev pub ShowsWhatWasPut : Type 0
ShowsWhatWasPut =
    (session : List Turn) (state : State) (place : ℕ) (turn : Turn) (name bytes : List ℕ) → AreTurns fresh session state
    → slice_get session place ≡ Some turn → turn.reply ≡ replies.Got name bytes → last_put (take place session) name ≡ Some bytes

-- a put enters no name that stands for bytes already
abbrev pub EntersNewNames : Type 0
EntersNewNames =
    (session : List Turn) (state : State) (place : ℕ) (turn : Turn) (name : List ℕ) (vid bid size : ℕ) → AreTurns fresh session state
    → slice_get session place ≡ Some turn → turn.reply ≡ replies.Put name vid bid size → last_put (take place session) name ≡ None

-- The commands of a session decide its turns, and so its text.
abbrev pub CommandsDecide : Type 0
CommandsDecide =
    (first second : List Turn) (state end : State) → AreTurns fresh first state → AreTurns fresh second end → commands_of first ≡ commands_of second → first ≡ second
