-- The plan of each command that is played by volumes that there are.
use Rattle.std.specs.Prelude.{ℕ, ◌+◌, ◌-◌, ◌==◌, nat_lt, cond, is_some, true, false, List, [], ◌∷◌, ◌++◌, length, replicate, slice_set, Option, Some, None, unwrap_or, option_map}
use Rattle.std.specs.Map.{lookup}
use Rattle.std.specs.Str.{bytes_eq}
use Rattle.std.specs.String.{string_bytes}
use Rattle.code_mode.specs.declared.payload.Payload.{Payload}
use Rattle.code_mode.specs.Payload.{payload_bytes}
use Rattle.object_access.specs.declared.pieces.TheConstants.{OBJECT_LIMIT}
use Rattle.object_access.specs.Pieces.{blob_count}
use Rattle.cluster_admin.specs.declared.disks.DiskState.TheVariants as disk_states
use Rattle.cluster_admin.specs.declared.fault.AdminFault.{AdminFault}
use Rattle.cluster_admin.specs.declared.fault.AdminFault.TheVariants as faults
use Rattle.cluster_admin.specs.declared.names.Object.{Object}
use Rattle.cluster_admin.specs.declared.picking.Seen.{Seen}
use Rattle.cluster_admin.specs.declared.volumes.Volume.{Volume}
use Rattle.cluster_admin.specs.Cluster.{State}
use Rattle.cluster_admin.specs.Disks.{disk_at, new_disk}
use Rattle.cluster_admin.specs.Volumes.{volume_at}
use Rattle.cluster_admin.specs.Picking.{last_bid, picked, with_last}
use Rattle.cluster_admin.specs.Refusals.{add_name_fault, break_fault, set_disks_fault}
use Rattle.volume_turns.specs.declared.command.VolumeCommand.{VolumeCommand}
use Rattle.volume_turns.specs.declared.command.VolumeCommand.TheVariants as turns
use Rattle.volume_turns.specs.declared.reply.VolumeRefusal.{VolumeRefusal}
use Rattle.volume_turns.specs.declared.reply.VolumeReply.{VolumeReply}
use Rattle.volume_turns.specs.declared.reply.VolumeReply.TheVariants as played
use Rattle.cluster_store.specs.declared.command.Command.{Command}
use Rattle.cluster_store.specs.declared.command.Command.TheVariants as commands
use Rattle.cluster_store.specs.declared.reply.Refusal.{Refusal}
use Rattle.cluster_store.specs.declared.reply.Refusal.TheVariants as causes
use Rattle.cluster_store.specs.declared.reply.Reply.{Reply}
use Rattle.cluster_store.specs.declared.reply.Reply.TheVariants as replies
use Rattle.cluster_store.specs.Plan.{Plan}

-- ---- ends

abbrev pub refused : State → Refusal → Plan
refused tables cause = Plan.Over tables tables (replies.Refused cause)

-- it is done, and the tables stay
abbrev pub done : State → Reply → Plan
done tables reply = Plan.Over tables tables reply

-- the reply, unless a volume refused
abbrev pub told : Reply → Option VolumeRefusal → Reply
told reply None = reply
told reply (Some refusal) = replies.Refused (causes.OfVolume refusal)

abbrev pub unless_refused : State → Reply → Option VolumeRefusal → Plan
unless_refused tables reply refusal = done tables (told reply refusal)

-- why a volume refuses, where it does
abbrev pub refusal_in : VolumeReply → Option VolumeRefusal
refusal_in (played.Refused refusal) = Some refusal
refusal_in reply = None

abbrev pub earlier : Option VolumeRefusal → Option VolumeRefusal → Option VolumeRefusal
earlier None next = next
earlier (Some first) next = Some first

-- ---- each volume

-- the volumes in these slots are asked the same, in order; the first that refuses decides what is behind them
abbrev pub asks_each : State → VolumeCommand → ℕ → List (Option Volume) → Option VolumeRefusal → (Option VolumeRefusal → Plan) → Plan
asks_each tables command place [] first behind = behind first
asks_each tables command place (None ∷ slots) first behind = asks_each tables command (place + 1) slots first behind
asks_each tables command place (Some volume ∷ slots) first behind =
    Plan.Ask tables place command (λ reply. asks_each tables command (place + 1) slots (earlier first (refusal_in reply)) behind)

-- each volume of the store is asked, and then it is done
abbrev pub by_each : State → VolumeCommand → Reply → Plan
by_each tables command reply = asks_each tables command 0 tables.volumes None (unless_refused tables reply)

-- ---- disks

-- why the tables refuse a disk
abbrev pub disk_refusal : AdminFault → Refusal
disk_refusal (faults.BadState state) = causes.BadState state
disk_refusal fault = causes.NoDisk

abbrev pub breaks_disk : State → ℕ → State
breaks_disk tables disk = record tables { disks = slice_set tables.disks (disk - 1) (record { state = disk_states.Broken; drains = false }) }

abbrev pub break_plan : State → ℕ → Option AdminFault → Plan
break_plan tables disk (Some fault) = refused tables (disk_refusal fault)
break_plan tables disk None = by_each (breaks_disk tables disk) (turns.Break disk) replies.Broken

-- only where there is such a disk
abbrev pub if_disk : State → ℕ → Plan → Plan
if_disk tables disk plan = cond (is_some (disk_at tables.disks disk)) plan (refused tables causes.NoDisk)

-- ---- one volume

-- a volume of this number is asked, only where there is one
abbrev pub if_volume : State → Option Volume → Plan → Plan
if_volume tables (Some volume) plan = plan
if_volume tables None plan = refused tables causes.NoVolume

abbrev pub planned : State → VolumeReply → Plan
planned tables reply = unless_refused tables replies.Planned (refusal_in reply)

abbrev pub flushed : State → VolumeReply → Plan
flushed tables (played.Flushed requests answers) = done tables (replies.Flushed requests answers)
flushed tables (played.Refused refusal) = refused tables (causes.OfVolume refusal)
flushed tables reply = Plan.Never

abbrev pub fetched : State → VolumeReply → Plan
fetched tables (played.Fetched bytes) = done tables (replies.Fetched bytes)
fetched tables (played.Refused refusal) = refused tables (causes.OfVolume refusal)
fetched tables reply = Plan.Never

abbrev pub got : State → VolumeReply → Plan
got tables (played.Got bytes) = done tables (replies.Got bytes)
got tables (played.Refused refusal) = refused tables (causes.OfVolume refusal)
got tables reply = Plan.Never

abbrev pub get_plan : State → Option Object → Plan
get_plan tables None = refused tables causes.NoName
get_plan tables (Some object) = Plan.Ask tables (object.vid - 1) (turns.Get object.bid object.size) (got tables)

-- ---- an object is put

-- what a look shows of a volume; one that wasn't seen counts as locked
abbrev pub seen_by : VolumeReply → Seen
seen_by (played.Seen view) = record { locked = is_some view.held; units = view.units }
seen_by reply = record { locked = true; units = [] }

-- it is looked at the volumes in these slots, in order
abbrev pub looks_each : State → ℕ → List (Option Volume) → List Seen → Option VolumeRefusal → (List Seen → Option VolumeRefusal → Plan) → Plan
looks_each tables place [] seen first behind = behind seen first
looks_each tables place (None ∷ slots) seen first behind = looks_each tables (place + 1) slots seen first behind
looks_each tables place (Some volume ∷ slots) seen first behind =
    Plan.Ask tables place turns.Look (λ reply. looks_each tables (place + 1) slots (seen ++ seen_by reply ∷ []) (earlier first (refusal_in reply)) behind)

-- the tables with a name more
abbrev pub with_name : State → List ℕ → Object → State
with_name tables name object = record tables { names = tables.names ++ (name, object) ∷ [] }

-- the object's name is entered where all its blobs were put
abbrev pub entered : State → List ℕ → Object → VolumeReply → Plan
entered tables name object played.Put = Plan.Over tables (with_name tables name object) (replies.Put object.vid object.bid object.size)
entered tables name object (played.Refused refusal) = refused tables (causes.OfVolume refusal)
entered tables name object reply = Plan.Never

-- where no volume takes puts, the first that wasn't seen says why
abbrev pub none_picked : Option VolumeRefusal → Refusal
none_picked None = causes.NoVolume
none_picked (Some refusal) = causes.OfVolume refusal

-- the numbers up to this one are given in a volume
abbrev pub spent_in : State → ℕ → ℕ → State
spent_in tables vid last = record tables { volumes = with_last tables.volumes vid last }

-- the object's blobs are put under the next numbers of the volume that was picked, which are spent then
abbrev pub put_picked : State → List ℕ → List ℕ → ℕ → ℕ → Plan
put_picked tables name bytes vid last =
    let spent = spent_in tables vid (last + blob_count (length bytes)) in
    cond (nat_lt last_bid (last + blob_count (length bytes))) (refused tables causes.Limit)
    (Plan.Ask spent (vid - 1) (turns.Put (last + 1) bytes) (entered spent name (record { vid = vid; bid = last + 1; size = length bytes })))

-- by the volume that is picked
abbrev pub put_seen : State → List ℕ → List ℕ → List Seen → Option VolumeRefusal → Plan
put_seen tables name bytes seen first =
    unwrap_or (option_map (λ best. put_picked tables name bytes best.vid best.last) (picked tables.volumes seen)) (refused tables (none_picked first))

-- why the tables refuse a name
abbrev pub name_refusal : AdminFault → Refusal
name_refusal faults.NameTaken = causes.NameTaken
name_refusal fault = causes.Limit

abbrev pub put_named : State → List ℕ → List ℕ → Option AdminFault → Plan
put_named tables name bytes (Some fault) = refused tables (name_refusal fault)
put_named tables name bytes None = looks_each tables 0 tables.volumes [] None (put_seen tables name bytes)

abbrev pub put_plan : State → List ℕ → List ℕ → Plan
put_plan tables name bytes =
    cond (length bytes == 0) (refused tables causes.Empty)
    (cond (nat_lt OBJECT_LIMIT (length bytes)) (refused tables causes.TooLarge) (put_named tables name bytes (add_name_fault tables name)))

-- ---- all

-- why the tables refuse a number of disks
abbrev pub disks_refused : AdminFault → Option Refusal
disks_refused (faults.DisksGiven have) = Some (causes.Given have)
disks_refused faults.LimitDisks = Some causes.Limit
disks_refused fault = None

abbrev pub disks_plan : State → ℕ → Option AdminFault → Plan
disks_plan tables count (Some fault) = refused tables (unwrap_or (disks_refused fault) causes.Limit)
disks_plan tables count None = Plan.Over tables (record tables { disks = replicate count new_disk }) replies.Disks

-- What a command asks of the volumes, over these tables. A volume is made by no other.
abbrev pub plan_of : State → Command → Plan
plan_of tables (commands.Disks count) = disks_plan tables count (set_disks_fault tables count)
plan_of tables (commands.Volume mode) = Plan.Never
plan_of tables (commands.Put name object) = put_plan tables (string_bytes name) (payload_bytes object)
plan_of tables (commands.Get name) = get_plan tables (lookup (bytes_eq (string_bytes name)) tables.names)
plan_of tables (commands.Fetch vid bid size) = if_volume tables (volume_at tables.volumes vid) (Plan.Ask tables (vid - 1) (turns.Fetch bid size) (fetched tables))
plan_of tables (commands.Tick by) = by_each tables (turns.Tick by) replies.Ticked
plan_of tables (commands.Break disk) = break_plan tables disk (break_fault tables disk)
plan_of tables (commands.Plan vid disk fate count) =
    if_volume tables (volume_at tables.volumes vid) (if_disk tables disk (Plan.Ask tables (vid - 1) (turns.Plan disk fate count) (planned tables)))
plan_of tables (commands.Flush vid) = if_volume tables (volume_at tables.volumes vid) (Plan.Ask tables (vid - 1) turns.Flush (flushed tables))
plan_of tables (commands.Restart disk) = if_disk tables disk (by_each tables (turns.Restart disk) replies.Restarted)
plan_of tables commands.RestartManager = by_each tables turns.RestartManager replies.RestartedManager
