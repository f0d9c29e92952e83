-- What a world passes through when a disk restarts: a record in doubt there is settled, and then the restart is done.
use Rattle.std.proofs.Common.{◌≡◌, ◌∙◌, sym, ap, refl, subst, ℕ, ◌+◌, ◌^◌, ◌-◌, ◌≤◌, min, Bool, true, false, ◌||◌, ◌&&◌, ◌==◌, inl, inr, List, [], ◌∷◌, ◌++◌, length, Result, Ok, Err, append_assoc, append-nil, length-append, Some, arith}
use Rattle.std.specs.Prelude.{is_some}
use Rattle.unit_id.specs.Place.{Place}
use Rattle.unit_id.specs.declared.answer.Answer.{Answer}
use Rattle.unit_id.specs.declared.answer.Answer.TheVariants as answers
use Rattle.disk_base.specs.Faults.{Rose}
use Rattle.disk_base.specs.Disk.{FileView}
use Rattle.disk_base.specs.Shelves.{ShelfView}
use Rattle.disk_base.specs.declared.fault.NoMemory.{NoMemory}
use Rattle.code_mode.specs.declared.mode.Mode.{Mode}
use Rattle.code_mode.proofs.Numbers.{sound_shapes}
use Rattle.blob_node.specs.Units.{Units}
use Rattle.blob_node.specs.Holding.{Written}
use Rattle.blob_node.specs.HeldUnit.{written_settled}
use Rattle.blob_node.specs.Station.{StationOver, units_settled, written_settled_by, all_open, all_shut}
use Rattle.blob_node.specs.Units.{with_at}
use Rattle.blob_node.specs.declared.settled.Settled.{Settled}
use Rattle.unit_id.specs.Messages.{place_at}
use Rattle.volume_entry.specs.Manager.{IsDisk}
use Rattle.volume_entry.specs.Reply.{Reply as ToldReply}
use Rattle.volume_entry.specs.TableParts.{shape_of}
use Rattle.volume_world.specs.State.{Puts, State}
use Rattle.volume_world.specs.Move.{Restarts}
use Rattle.volume_world.specs.Run.{World}
use Rattle.volume_world.specs.Trace.{trace_of, reply_kept}
use Rattle.volume_world.specs.History.{KeptHistory, IsNoted, settle_entry}
use Rattle.volume_world.specs.FixedRows.{FitsRows}
use Rattle.volume_world.specs.Course.{Part, traces_of, is_fault, fault_count, PartsLead, AreSettling}
use Rattle.volume_world.specs.OldDisks.{KeptApart, AreDoubtsShut}
use Rattle.volume_world.specs.Origins.{faults_of, origin_of}
use Rattle.volume_world.specs.Replying.{MayReply, ShowsMoves}
use Rattle.volume_world.specs.Restarting.{NotesFirst, restart_reply}
use Rattle.volume_world.specs.Serving.{SettlesEach}
use Rattle.volume_world.specs.Stations.{StationsOver, HasDisk, is_broken_on, AllStand, AllOutlast, CountsFault, StationsCall, Restarted}
use Rattle.volume_world.specs.Stations as all
use Rattle.volume_world.specs.Stepping.{IsSound, IsAt, IsShort, Passes, Done, NotDone}
use Rattle.volume_world.specs.World.{WorldOver, Stands, AreAsBegun}
use Rattle.volume_world.specs.Way.{Origin}
use Rattle.volume_world.specs.Way as way
use Rattle.volume_world.specs.declared.event.Event.TheVariants as events
use Rattle.volume_world.specs.declared.reply.Reply.{Reply}
use Rattle.volume_world.specs.declared.reply.Reply.TheVariants as replies
use Rattle.volume_world.specs.declared.trace.TraceEvent.TheVariants as kept_event
use Rattle.volume_world.specs.declared.trace.TraceReply.TheVariants as kept_reply
use Rattle.volume_world.proofs.KeptApart.{parts_apart}
use Rattle.volume_world.proofs.LoneUnits.{one_doubts, few_settled}
use Rattle.volume_world.proofs.OneMove.{done_by, entry_of, entry_of_move}
use Rattle.volume_world.proofs.Passing.{SameVolume, all_late_fit, end_in_time, no_fault, one_fault, uncounted, still_short}
use Rattle.volume_world.proofs.ServingContents.{settled_as_begun}
use Rattle.volume_world.proofs.ServingRestart.{settles_each, restarts_done}
use Rattle.volume_world.proofs.StationsFrame.{differ}
use Rattle.volume_world.proofs.StationsLasting.{lasting_are, lasting_told, lasting_quiet, lasting_still, lasting_faults}
use Rattle.volume_world.proofs.Stretches.{leads_on}

-- ---- replies

pub reply_may : (origin : Origin) (disk : ℕ) (answer : Answer)
    → MayReply origin (events.Restart disk) (restart_reply answer)
reply_may origin disk answers.Fault = tt
reply_may origin disk (answers.Damaged kept computed) = tt
reply_may origin disk (answers.Spoiled place) = tt
reply_may origin disk answer = tt

reply_moves : (origin : Origin) (answer : Answer) → ShowsMoves origin (restart_reply answer)
reply_moves origin answers.Fault = tt
reply_moves origin (answers.Damaged kept computed) = tt
reply_moves origin (answers.Spoiled place) = tt
reply_moves origin answer = tt

pub reply_fits : (answer : Answer) → FitsRows (restart_reply answer)
reply_fits answers.Fault = tt
reply_fits (answers.Damaged kept computed) = tt
reply_fits (answers.Spoiled place) = tt
reply_fits answer = tt

-- ---- the stretch

-- what of the settled records is noted
abbrev settles_of : ℕ → List Settled → List Part
settles_of disk [] = []
settles_of disk (item ∷ rest) = Part.Settling (settle_entry disk item.found) ∷ []

settles_are : (disk : ℕ) (items : List Settled) → AreSettling (settles_of disk items)
settles_are disk [] = tt
settles_are disk (item ∷ rest) = (tt, tt)

settles_few : (disk : ℕ) (items : List Settled) → length (settles_of disk items) ≤ 1
settles_few disk [] = omega arith
settles_few disk (item ∷ rest) = omega arith

-- with the restart itself behind it
abbrev parts_of : ℕ → List Settled → Reply → List Part
parts_of disk items reply = settles_of disk items ++ Part.Asking (events.Restart disk) reply ∷ []

-- the history has these entries more
record Grows (parts : List Part) (old new : KeptHistory) : Type 0 where
  entries : new.entries ≡ old.entries ++ traces_of parts
  spare : old.spare ≤ new.spare + length parts

grows_first : (disk : ℕ) (items : List Settled) (old new : KeptHistory) → NotesFirst disk items old new
    → Grows (settles_of disk items) old new
grows_first disk [] old new same =
    subst (Grows [] old) (sym same) (record { entries = sym (append-nil old.entries); spare = omega arith })
grows_first disk (item ∷ rest) old new noted = record { entries = noted.entries; spare = noted.spare }

grows_all : (disk : ℕ) (items : List Settled) (reply : Reply) (old mid new : KeptHistory)
    → NotesFirst disk items old mid
    → IsNoted (trace_of (events.Restart disk) reply) mid new → Grows (parts_of disk items reply) old new
grows_all disk [] reply old mid new same noted =
    subst (λ (history : KeptHistory). Grows (Part.Asking (events.Restart disk) reply ∷ []) history new) same
    (record { entries = noted.entries; spare = noted.spare })
grows_all disk (item ∷ rest) reply old mid new first noted = record {
  entries =
      noted.entries ∙ ap (λ xs. xs ++ trace_of (events.Restart disk) reply ∷ []) first.entries
      ∙ append_assoc old.entries (settle_entry disk item.found ∷ []) (trace_of (events.Restart disk) reply ∷ []);
  spare = let one = first.spare in let two = noted.spare in omega (arith, one, two);
}

-- it is no shorter
grows_more : (parts : List Part) (old new : KeptHistory) → Grows parts old new → length old.entries ≤ length new.entries
grows_more parts old new grows =
    let sum = length-append old.entries (traces_of parts) in let long = ap length grows.entries in omega
    (arith, sum, long)

-- settles tell no fault
faults_of_all : (disk : ℕ) (items : List Settled) (reply : Reply)
    → fault_count (parts_of disk items reply) ≡ fault_count (Part.Asking (events.Restart disk) reply ∷ [])
faults_of_all disk [] reply = refl
faults_of_all disk (item ∷ rest) reply = omega arith

faults_of_first : (disk : ℕ) (items : List Settled) → fault_count (settles_of disk items) ≡ 0
faults_of_first disk [] = refl
faults_of_first disk (item ∷ rest) = refl

-- ---- what is settled

-- records that are settled are begun blobs' still
settled_all : (mode : Mode) (puts : Puts) (disk : ℕ) (items : List Settled) (written : Place → Written)
    → AreAsBegun mode puts written → AreAsBegun mode puts (written_settled_by disk items written)
settled_all mode puts disk [] written begun = begun
settled_all mode puts disk (item ∷ rest) written begun =
    settled_all mode puts disk rest (with_at (place_at item.unit disk)
    (written_settled item.found (written (place_at item.unit disk))) written)
    (settled_as_begun mode puts (place_at item.unit disk) (Some item.found) written begun)

-- the state behind it
abbrev once_all : ℕ → List Settled → World → World
once_all disk items w = record w { state = record (w.state) { units = units_settled disk items w.state.units } }

settles_lead : (origin : Origin) (disk : ℕ) (items : List Settled) (w : World) → (disk == 0) ≡ false → length items ≤ 1
    → SettlesEach disk w.state items (once_all disk items w).state
    → PartsLead origin w (settles_of disk items) (once_all disk items w)
settles_lead origin disk [] w some few each = refl
settles_lead origin disk (item ∷ []) w some few each = (
  once_all disk (item ∷ []) w,
  entry_of origin.vid (way.shape_of origin) w (kept_event.Settle disk item.found) kept_reply.Done ToldReply.Done
      (once_all disk (item ∷ []) w) (refl, (inr (some, each.0), refl)) tt,
  refl,
)
settles_lead origin disk (a ∷ b ∷ rest) w some few each = absurd (omega (arith, few))

-- ---- the restart

asks_done : (origin : Origin) (disk : ℕ) (w : World) (t : State) → Restarts disk w.state ToldReply.Done t
    → PartsLead origin w (Part.Asking (events.Restart disk) replies.Done ∷ []) (record w { state = t })
asks_done origin disk w t restarts =
    let v : World = record w { state = t } in
    let entry = entry_of_move origin.vid (way.shape_of origin) w (kept_event.Restart disk) kept_reply.Done
    ToldReply.Done t tt restarts tt in
    (v, done_by origin w (events.Restart disk) replies.Done v tt entry, refl)

asks_fault : (origin : Origin) (disk : ℕ) (w : World) (t : State) → Restarts disk w.state ToldReply.Fault t
    → PartsLead origin w (Part.Asking (events.Restart disk) replies.Fault ∷ []) (record w { state = t })
asks_fault origin disk w t restarts =
    let v : World = record w { state = t } in
    let entry = entry_of_move origin.vid (way.shape_of origin) w (kept_event.Restart disk) kept_reply.Fault
    ToldReply.Fault t tt restarts tt in
    (v, done_by origin w (events.Restart disk) replies.Fault v tt entry, refl)

-- after a fault every chunk of the disk counts as shut
restarts_fault : (disk : ℕ) (s : State) → s.broken disk ≡ false → AreDoubtsShut s.units
    → Restarts disk s ToldReply.Fault (record s { units = all_shut disk s.units })
restarts_fault disk s unbroken shut = (
  unbroken,
  record {
    same = refl;
    others = λ place other. ap (λ b. b || s.units.is_shut place) other;
    doubts = λ place doubtful. go (place.disk == disk) (s.units.is_shut place) (shut place doubtful);
  },
  refl,
) where
  go : (here flag : Bool) → flag ≡ true → (here || flag) ≡ true
  go true flag e = refl
  go false flag e = e

no_disk : (disk : ℕ) → 1 ≤ disk → (disk == 0) ≡ false
no_disk disk some = differ disk 0 (λ e. omega (arith, e, some))

done_is : (answer : Answer) → ◌≡◌ {A = Result Answer NoMemory} (Ok answer) (Ok answers.Done) → answer ≡ answers.Done
done_is answer e = cc

no_answer : (fault : NoMemory) → ◌≡◌ {A = Result Answer NoMemory} (Err fault) (Ok answers.Done) → ⊥
no_answer fault e = cc

rose_with : (a b f now : ℕ) → now ≡ b + f → Rose a b → Rose (a + f) now
rose_with a b f now same rose = omega (arith, same, rose)

module _ {H F : Type 0} (shelf_seen : H → ShelfView F) (seen : F → FileView) (disk : ℕ) (items : List Settled)
    (stations : List (StationOver H F)) (old new : WorldOver H F)
    (only : new ≡ record old { stations = stations; history = new.history }) where
  -- but for its history
  abbrev restarted_world : WorldOver H F
  restarted_world = record old { stations = stations; history = new.history }

  restarted_stands : (w : World) (written : Place → Written) (units : Units) → Stands shelf_seen seen old w
      → AllStand shelf_seen seen stations written units
      → AreAsBegun old.shape.mode w.state.puts written
      → Stands shelf_seen seen new (record w { state = record (w.state) { units = units } })
  restarted_stands w written units stands all begun =
      subst (λ (x : WorldOver H F). Stands shelf_seen seen x (record w { state = record (w.state) { units = units } }))
      (sym only) (record {
        manager = stands.manager;
        written = written;
        stations = all;
        as_begun = begun;
        puts = stands.puts;
        bytes = stands.bytes;
        posted = stands.posted;
        time = stands.time;
        broken = stands.broken;
        planned = stands.planned;
        late = stands.late;
      })

  restarted_short : length old.history.entries ≤ length new.history.entries
      → IsShort (length old.history.entries) (seen old.entry.book.log.file)
      → IsShort (length new.history.entries) (seen new.entry.book.log.file)
  restarted_short more short =
      subst (λ (x : WorldOver H F). IsShort (length new.history.entries) (seen x.entry.book.log.file)) (sym only)
      (still_short (length old.history.entries) (length new.history.entries) (seen old.entry.book.log.file) more short)

  -- ---- states

  module _ (sound : IsSound shelf_seen seen old) (fits : IsDisk (shape_of old.shape) disk)
      (more : length old.history.entries ≤ length new.history.entries) (w : World) (is : IsAt shelf_seen seen old w)
      (apart : KeptApart (shape_of old.shape) w.state) where
    abbrev origin : Origin
    origin = origin_of shelf_seen seen old

    at_written : (units : Units) → AllStand shelf_seen seen stations (written_settled_by disk items is.stands.written)
        units
        → IsAt shelf_seen seen new (record w { state = record (w.state) { units = units } })
    at_written units stand = record {
      stands = restarted_stands w (written_settled_by disk items is.stands.written) units is.stands stand
          (settled_all old.shape.mode w.state.puts disk items is.stands.written is.stands.as_begun);
      short = restarted_short more is.short;
    }

    flag_is : w.state.broken disk ≡ is_broken_on old.stations disk
    flag_is = is.stands.broken disk ∙ sym (sound.broken disk)

    module _ (result : Result Answer NoMemory) (unbroken : is_broken_on old.stations disk ≡ false)
        (restarts : all.Restarts shelf_seen seen old.vid disk is.stands.written w.state.units items result stations)
      where
        calm : w.state.broken disk ≡ false
        calm = flag_is ∙ unbroken

        few : length items ≤ 1
        few =
            few_settled disk old.vid w.state items (one_doubts (shape_of old.shape) w.state apart) calm restarts.own
            restarts.order restarts.in_doubt

        each : SettlesEach disk w.state items (once_all disk items w).state
        each = settles_each disk old.vid w.state items calm restarts.own restarts.order
            (λ item there. (
              restarts.in_doubt item there,
              apart.shut (place_at item.unit disk)
                  (restarts.in_doubt item there),
            ))

        -- what was in doubt is settled
        first_lead : PartsLead origin w (settles_of disk items) (once_all disk items w)
        first_lead = settles_lead origin disk items w (no_disk disk fits.first) few each

        -- .. and then this is done
        then_lead : (reply : Reply) (v : World) → PartsLead origin (once_all disk items w)
            (Part.Asking (events.Restart disk) reply ∷ []) v → PartsLead origin w (parts_of disk items reply) v
        then_lead reply v asks =
            leads_on origin w (once_all disk items w) v (settles_of disk items)
            (Part.Asking (events.Restart disk) reply ∷ []) first_lead asks

        shut_then : AreDoubtsShut (units_settled disk items w.state.units)
        shut_then =
            (parts_apart origin w (settles_of disk items) (once_all disk items w)
            (sound_shapes old.shape.mode old.shape.disks) first_lead apart).shut

    -- a broken disk starts nothing
    broken_leads : is_broken_on old.stations disk ≡ true → items ≡ [] → stations ≡ old.stations
        → (v : World) × PartsLead origin w (parts_of disk items replies.Done) v × IsAt shelf_seen seen new v
    broken_leads broken none same = (
      w,
      subst (λ (xs : List Settled). PartsLead origin w (parts_of disk xs replies.Done) w) (sym none)
          (asks_done origin disk w w.state (inl (flag_is ∙ broken, refl))),
      record {
        stands = restarted_stands w is.stands.written w.state.units is.stands
            (subst (λ (ss : List (StationOver H F)). AllStand shelf_seen seen ss is.stands.written w.state.units)
            (sym same) is.stands.stations) is.stands.as_begun;
        short = restarted_short more is.short;
      },
    )

    unbroken_leads : (answer : Answer) → is_broken_on old.stations disk ≡ false
        → all.Restarts shelf_seen seen old.vid disk is.stands.written w.state.units items (Ok answer) stations
        → (v : World) × PartsLead origin w (parts_of disk items (restart_reply answer)) v × IsAt shelf_seen seen new v
    unbroken_leads answers.Done unbroken restarts =
        let u : World = once_all disk items w in
        let t : State = record (u.state) { units = all_open disk u.state.units } in
        let moves : Restarts disk u.state ToldReply.Done t = restarts_done disk u.state items w.state.units
        (calm (Ok answers.Done) unbroken restarts) refl restarts.restarts.1 in (
          record u { state = t },
          then_lead (Ok answers.Done) unbroken restarts replies.Done (record u { state = t })
              (asks_done origin disk u t moves),
          at_written (all_open disk u.state.units) restarts.restarts.0,
        )
    unbroken_leads answers.Fault unbroken restarts =
        let u : World = once_all disk items w in
        let t : State = record (u.state) { units = all_shut disk u.state.units } in
        let moves : Restarts disk u.state ToldReply.Fault t = restarts_fault disk u.state
        (calm (Ok answers.Fault) unbroken restarts) (shut_then (Ok answers.Fault) unbroken restarts) in (
          record u { state = t },
          then_lead (Ok answers.Fault) unbroken restarts replies.Fault (record u { state = t })
              (asks_fault origin disk u t moves),
          at_written (all_shut disk u.state.units) restarts.restarts,
        )
    unbroken_leads answer unbroken restarts = absurd restarts.restarts

    pub answer_leads : (answer : Answer) → Restarted shelf_seen seen old.vid disk items (Ok answer) old.stations
        stations
        → (v : World) × PartsLead origin w (parts_of disk items (restart_reply answer)) v × IsAt shelf_seen seen new v
    answer_leads answer (inl still) =
        subst (λ (a : Answer). (v : World) × PartsLead origin w (parts_of disk items (restart_reply a)) v × IsAt
        shelf_seen seen new v)
        (sym (done_is answer still.2)) (broken_leads still.0 still.1 still.3)
    answer_leads answer (inr told) =
        unbroken_leads answer told.0 (told.1 is.stands.written w.state.units is.stands.stations)

    pub memory_leads : (fault : NoMemory) → Restarted shelf_seen seen old.vid disk items (Err fault) old.stations
        stations
        → (v : World) × PartsLead origin w (settles_of disk items) v × IsAt shelf_seen seen new v
    memory_leads fault (inl still) = absurd (no_answer fault still.2)
    memory_leads fault (inr told) =
        let restarts = told.1 is.stands.written w.state.units is.stands.stations in (
          once_all disk items w,
          first_lead (Err fault) told.0 restarts,
          at_written
              (units_settled disk items w.state.units) restarts.restarts,
        )

  -- ---- the stretch

  module _ (sound : IsSound shelf_seen seen old) (fits : IsDisk (shape_of old.shape) disk)
      (result : Result Answer NoMemory)
      (call : StationsCall shelf_seen seen (record { vid = old.vid; stations = old.stations })
      (record { vid = old.vid; stations = stations }) result)
      (lasts : AllOutlast shelf_seen seen old.stations stations) where
    restarted_same : SameVolume shelf_seen seen old restarted_world
    restarted_same = record {
      vid = refl;
      shape = refl;
      first = refl;
      told =
          ap (λ b. b && is_some (seen old.entry.book.log.file).content)
          (lasting_told shelf_seen seen old.stations stations lasts);
      quiet =
          ap (λ b. b && (seen old.entry.book.log.file).is_quiet)
          (lasting_quiet shelf_seen seen old.stations stations lasts);
      count = let rose = lasting_faults shelf_seen seen old.stations stations lasts in omega (arith, rose);
    }

    restarted_sound : length old.history.entries ≤ length new.history.entries → IsSound shelf_seen seen restarted_world
    restarted_sound more = record {
      one = record { vid = sound.one.vid; shape = sound.one.shape; planned = sound.one.planned };
      disks = sound.disks;
      stations = lasting_are shelf_seen seen old.vid old.stations stations lasts call.count sound.stations;
      count = call.count ∙ sound.count;
      still = lasting_still shelf_seen seen old.stations stations lasts sound.still;
      flags = sound.flags;
      broken = λ other. call.broken other ∙ sound.broken other;
      time = sound.time;
      end = end_in_time (length old.history.entries) (length new.history.entries) old.entry.book.log.end more sound.end;
      late = all_late_fit shelf_seen seen old restarted_world restarted_same refl sound;
    }

    passes_by : (parts : List Part) → Grows parts old.history new.history
        → min (faults_of shelf_seen seen old + fault_count parts) (2 ^ 64 - 1) ≤ faults_of shelf_seen seen new
        → ((w : World) → IsAt shelf_seen seen old w → KeptApart (shape_of old.shape) w.state
        → (v : World) × PartsLead (origin_of shelf_seen seen old) w parts v × IsAt shelf_seen seen new v)
        → Passes shelf_seen seen parts old new
    passes_by parts grows faults leads =
        let same = subst (SameVolume shelf_seen seen old) (sym only) restarted_same in
        record {
          vid = same.vid;
          shape = same.shape;
          first = same.first;
          sound =
              subst (IsSound shelf_seen seen) (sym only)
              (restarted_sound (grows_more parts old.history new.history grows));
          entries = grows.entries;
          spare = grows.spare;
          told = same.told;
          quiet = same.quiet;
          count = same.count;
          faults = faults;
          leads = λ w is apart carries. leads w is apart;
        }

    same_count : faults_of shelf_seen seen old ≤ faults_of shelf_seen seen new
    same_count = (subst (SameVolume shelf_seen seen old) (sym only) restarted_same).count

    rose_all : Rose (all.faults_of shelf_seen seen old.stations) (all.faults_of shelf_seen seen stations)
        → Rose (faults_of shelf_seen seen old) (faults_of shelf_seen seen new)
    rose_all rose =
        rose_with (all.faults_of shelf_seen seen old.stations) (all.faults_of shelf_seen seen stations)
        (seen old.entry.book.log.file).faults (faults_of shelf_seen seen new)
        (ap (λ (x : WorldOver H F). faults_of shelf_seen seen x) only) rose

    -- a reply that tells no fault
    faultless : (reply : Reply) → is_fault (reply_kept reply) ≡ false
        → min (faults_of shelf_seen seen old + fault_count (parts_of disk items reply)) (2 ^ 64 - 1) ≤ faults_of
        shelf_seen seen new
    faultless reply none =
        subst (λ n. min (faults_of shelf_seen seen old + n) (2 ^ 64 - 1) ≤ faults_of shelf_seen seen new)
        (sym (faults_of_all disk items reply))
        (no_fault (events.Restart disk) reply (faults_of shelf_seen seen old) (faults_of shelf_seen seen new) none
        same_count)

    answer_faults : (answer : Answer) → CountsFault shelf_seen seen old.stations stations (Ok answer)
        → min (faults_of shelf_seen seen old + fault_count (parts_of disk items (restart_reply answer))) (2 ^ 64 - 1) ≤
        faults_of shelf_seen seen new
    answer_faults answers.Fault counts =
        subst (λ n. min (faults_of shelf_seen seen old + n) (2 ^ 64 - 1) ≤ faults_of shelf_seen seen new)
        (sym (faults_of_all disk items replies.Fault))
        (one_fault (events.Restart disk) replies.Fault (faults_of shelf_seen seen old) (faults_of shelf_seen seen new)
        (rose_all counts))
    answer_faults (answers.Damaged kept computed) counts = faultless (replies.Damaged kept computed) refl
    answer_faults (answers.Spoiled place) counts = faultless (replies.Spoiled place) refl
    answer_faults answer counts = faultless replies.Done refl

  module _ (sound : IsSound shelf_seen seen old) (fits : IsDisk (shape_of old.shape) disk)
      (lasts : AllOutlast shelf_seen seen old.stations stations) (mid : KeptHistory)
      (first : NotesFirst disk items old.history mid) where
    restart_passes : (answer : Answer)
        → StationsCall shelf_seen seen (record { vid = old.vid; stations = old.stations })
        (record { vid = old.vid; stations = stations }) (Ok answer)
        → Restarted shelf_seen seen old.vid disk items (Ok answer) old.stations stations
        → IsNoted (trace_of (events.Restart disk) (restart_reply answer)) mid new.history
        → Passes shelf_seen seen (parts_of disk items (restart_reply answer)) old new
    restart_passes answer call told noted =
        let grows = grows_all disk items (restart_reply answer) old.history mid new.history first noted in
        passes_by sound fits (Ok answer) call lasts (parts_of disk items (restart_reply answer)) grows
        (answer_faults sound fits (Ok answer) call lasts answer call.counts)
        (λ w is apart. answer_leads sound fits (grows_more (parts_of disk items (restart_reply answer)) old.history
        new.history grows) w is apart answer told)

    restart_done : (answer : Answer)
        → StationsCall shelf_seen seen (record { vid = old.vid; stations = old.stations })
        (record { vid = old.vid; stations = stations }) (Ok answer)
        → Restarted shelf_seen seen old.vid disk items (Ok answer) old.stations stations
        → IsNoted (trace_of (events.Restart disk) (restart_reply answer)) mid new.history
        → Done shelf_seen seen 1 old new (events.Restart disk) (restart_reply answer)
    restart_done answer call told noted = record {
      settles = settles_of disk items;
      settling = settles_are disk items;
      few = settles_few disk items;
      fits = reply_may (origin_of shelf_seen seen old) disk answer;
      moves = reply_moves (origin_of shelf_seen seen old) answer;
      passes = restart_passes answer call told noted;
    }

    restart_not_done : (fault : NoMemory)
        → StationsCall shelf_seen seen (record { vid = old.vid; stations = old.stations })
        (record { vid = old.vid; stations = stations }) (Err fault)
        → Restarted shelf_seen seen old.vid disk items (Err fault) old.stations stations → new.history ≡ mid
        → NotDone shelf_seen seen 1 old new
    restart_not_done fault call told same =
        let grows : Grows (settles_of disk items) old.history new.history = subst
        (Grows (settles_of disk items) old.history) (sym same) (grows_first disk items old.history mid first) in
        let count : faults_of shelf_seen seen old ≤ faults_of shelf_seen seen new = same_count sound fits (Err fault)
        call lasts in
        record {
          settles = settles_of disk items;
          settling = settles_are disk items;
          few = settles_few disk items;
          passes = passes_by sound fits (Err fault) call lasts (settles_of disk items) grows
              (uncounted (faults_of shelf_seen seen old) (fault_count (settles_of disk items))
              (faults_of shelf_seen seen new) (faults_of_first disk items) count)
              (λ w is apart. memory_leads sound fits (grows_more (settles_of disk items) old.history new.history grows)
              w is apart fault told);
        }

-- ---- as the stations tell it

module _ {H F : Type 0} (shelf_seen : H → ShelfView F) (seen : F → FileView) (disk : ℕ) (items : List Settled)
    (stations : StationsOver H F) (old mid : WorldOver H F)
    (sound : IsSound shelf_seen seen old) (fits : IsDisk (shape_of old.shape) disk)
    (lasts : AllOutlast shelf_seen seen old.stations stations.stations)
    (only : mid ≡ record old { vid = stations.vid; stations = stations.stations; history = mid.history })
    (first : NotesFirst disk items old.history mid.history) where
  plain : (result : Result Answer NoMemory) → StationsCall shelf_seen seen
      (record { vid = old.vid; stations = old.stations }) stations result
      → StationsCall shelf_seen seen (record { vid = old.vid; stations = old.stations })
      (record { vid = old.vid; stations = stations.stations }) result
  plain result call =
      subst (λ (vid : ℕ). StationsCall shelf_seen seen (record { vid = old.vid; stations = old.stations })
      (record { vid = vid; stations = stations.stations }) result) call.vid call

  same_vid : (new : WorldOver H F) → stations.vid ≡ old.vid → new ≡ record mid { history = new.history }
      → new ≡ record old { stations = stations.stations; history = new.history }
  same_vid new vid noted =
      noted ∙ (λ i. record (only i) { history = new.history })
      ∙ (λ i. record old { vid = vid i; stations = stations.stations; history = new.history })

  pub restart_done_to : (new : WorldOver H F) (answer : Answer)
      → StationsCall shelf_seen seen (record { vid = old.vid; stations = old.stations }) stations (Ok answer)
      → Restarted shelf_seen seen old.vid disk items (Ok answer) old.stations stations.stations
      → new ≡ record mid { history = new.history }
      → IsNoted (trace_of (events.Restart disk) (restart_reply answer)) mid.history new.history
      → Done shelf_seen seen 1 old new (events.Restart disk) (restart_reply answer)
  restart_done_to new answer call told same noted =
      restart_done shelf_seen seen disk items stations.stations old new (same_vid new call.vid same) sound fits lasts
      mid.history first answer (plain (Ok answer) call) told noted

  pub restart_not_done_to : (fault : NoMemory) → StationsCall shelf_seen seen
      (record { vid = old.vid; stations = old.stations }) stations (Err fault)
      → Restarted shelf_seen seen old.vid disk items (Err fault) old.stations stations.stations
      → NotDone shelf_seen seen 1 old mid
  restart_not_done_to fault call told =
      restart_not_done shelf_seen seen disk items stations.stations old mid (same_vid mid call.vid refl) sound fits
      lasts mid.history first fault (plain (Err fault) call) told refl
