-- Stretches of history through which a world passes: none, one event, and one stretch behind another.
use Rattle.std.proofs.Common.{◌≡◌, ◌∙◌, sym, ap, refl, subst, ℕ, ◌+◌, ◌*◌, ◌-◌, ◌^◌, ◌≤◌, ◌⊎◌, min, Bool, true, false, cond, inl, inr, List, [], ◌∷◌, ◌++◌, length, Option, Some, None, append_assoc, append-nil, length-append, arith}
use Rattle.std.specs.Prelude.{IfSome}
use Rattle.unit_id.specs.Place.{Place}
use Rattle.disk_base.specs.Faults.{Rose}
use Rattle.unit_id.specs.Lists.{IsIn}
use Rattle.disk_base.specs.Disk.{FileView}
use Rattle.disk_base.specs.Shelves.{ShelfView}
use Rattle.code_mode.specs.declared.mode.Mode.{Mode}
use Rattle.code_mode.specs.VolumeShape.{VolumeShape, last_time}
use Rattle.volume_entry.specs.BookStart.{last_start}
use Rattle.volume_entry.specs.TableParts.{shape_of}
use Rattle.volume_world.specs.State.{Puts, State}
use Rattle.volume_world.specs.Move.{SettlesManager, SettlesUnit}
use Rattle.volume_world.specs.Run.{World, SettlesOn, IsRefusedByLog, Does}
use Rattle.volume_world.specs.Trace.{trace_of, reply_kept}
use Rattle.volume_world.specs.Told.{MayBe}
use Rattle.volume_world.specs.History.{KeptHistory, IsNoted}
use Rattle.volume_world.specs.Asking.{FitsRequest, CarriesRight}
use Rattle.volume_world.specs.Way.{Origin}
use Rattle.volume_world.specs.Way as way
use Rattle.volume_world.specs.Course.{Part, trace_at, traces_of, is_fault, fault_count, IsDone, PartLeads, PartsLead, AreSettling, IsSettle}
use Rattle.volume_world.specs.Origins.{made_with, is_told, is_quiet, faults_of, origin_of}
use Rattle.volume_world.specs.Replying.{MayReply, ShowsMoves}
use Rattle.volume_world.specs.World.{WorldOver, Stands}
use Rattle.volume_world.specs.WorldSteps.{LeadsOn}
use Rattle.volume_world.specs.Stepping.{IsShort, CarryRight, FitsLate, IsSound, IsAt, Passes, HasRoom, Done, NotDone}
use Rattle.volume_world.specs.declared.event.Event.{Event}
use Rattle.volume_world.specs.declared.reply.Reply.{Reply}
use Rattle.volume_world.specs.declared.late.LateItem.{LateItem}
use Rattle.volume_world.specs.declared.late.LateItem.TheVariants as items
use Rattle.volume_world.specs.declared.trace.Trace.{Trace}
use Rattle.volume_world.specs.declared.trace.TraceEvent.{TraceEvent}
use Rattle.volume_world.specs.declared.trace.TraceEvent.TheVariants as kept_event
use Rattle.volume_world.specs.declared.trace.TraceReply.{TraceReply}
use Rattle.volume_world.specs.declared.trace.TraceReply.TheVariants as kept_reply
use Rattle.code_mode.proofs.Numbers.{sound_shapes}
use Rattle.volume_world.specs.OldDisks.{KeptApart}
use Rattle.volume_world.proofs.KeptApart.{parts_apart}
use Rattle.volume_world.proofs.OneMove.{IsNoSend, done_by}
use Rattle.volume_world.proofs.Stretches.{leads_on, traces_on, traces_length, faults_more}

-- ---- lists of parts

pub in_front : {A : Type 0} (x : A) (xs ys : List A) → IsIn x xs → IsIn x (xs ++ ys)
in_front x [] ys there = absurd there
in_front x (y ∷ xs) ys there = elim there [ inl e ↦ inl e | inr later ↦ inr (in_front x xs ys later) ]

pub in_back : {A : Type 0} (x : A) (xs ys : List A) → IsIn x ys → IsIn x (xs ++ ys)
in_back x [] ys there = there
in_back x (y ∷ xs) ys there = inr (in_back x xs ys there)

-- how many entries a history has then
pub longer : (old new : List Trace) (parts : List Part) → new ≡ old ++ traces_of parts → length new ≡ length old + length parts
longer old new parts e = let count = traces_length parts in let sum = length-append old (traces_of parts) in ap length e ∙ omega (arith, count, sum)

-- one entry more
pub noted_length : (trace : Trace) (old new : KeptHistory) → IsNoted trace old new → length new.entries ≡ length old.entries + 1
noted_length trace old new noted = let sum = length-append old.entries (trace ∷ []) in ap length noted.entries ∙ omega (arith, sum)

-- ---- short logs

-- a file stays short behind more entries
pub still_short : (few many : ℕ) (file : FileView) → few ≤ many → IsShort few file → IsShort many file
still_short few many file more short bodies log = let below = short bodies log in omega (arith, below, more)

-- the log ends where it did, and the history has no fewer entries
pub end_in_time : (before now : ℕ) (end : Option ℕ) → before ≤ now → IfSome end (λ place. place ≤ last_start + 128 * before) → IfSome end (λ place. place ≤ last_start + 128 * now)
end_in_time before now None more h = tt
end_in_time before now (Some place) more h = omega (arith, h, more)

-- ---- what settles leave of the puts

unit_settled : (place : Place) (s : State) (is_found : Bool) (t : State) → SettlesUnit place s is_found t → t.puts ≡ s.puts
unit_settled place s true t h = ap (λ (x : State). x.puts) h.2
unit_settled place s false t h = ap (λ (x : State). x.puts) h.1

manager_settled : (s : State) (is_found : Bool) (t : State) → SettlesManager s is_found t → t.puts ≡ s.puts
manager_settled s true t h = ap (λ (x : State). x.puts) h.2
manager_settled s false t h = ap (λ (x : State). x.puts) h.1

settled_puts : (shape : VolumeShape) (disk : ℕ) (w : World) (is_found : Bool) (v : World) → SettlesOn shape disk w is_found v → v.state.puts ≡ w.state.puts
settled_puts shape disk w is_found v h = elim h.0 [
  | inl manager ↦ ap (λ (x : State). x.puts) manager.1.2 ∙ manager_settled w.state is_found manager.1.0 manager.1.1
  | inr unit ↦ unit_settled unit.1.place w.state is_found v.state unit.1.settles
]

settle_keeps_puts : (vid : ℕ) (shape : VolumeShape) (w : World) (event : TraceEvent) (reply : TraceReply) (v : World) → IsSettle event reply
    → MayBe vid shape w (record { event = event; reply = reply }) v → v.state.puts ≡ w.state.puts
settle_keeps_puts vid shape w (kept_event.Settle disk kept) kept_reply.Done v settle may_be =
    let step = may_be.step in
    elim (subst (λ e. Does shape w e step.reply v ⊎ IsRefusedByLog w e step.reply v) may_be.told.event may_be.leads) [
      | inl does ↦ settled_puts shape disk w kept v does.1
      | inr not_so ↦ absurd not_so
    ]
settle_keeps_puts vid shape w event reply v settle may_be = absurd settle

pub settles_keep_puts : (origin : Origin) (parts : List Part) (w v : World) → AreSettling parts → PartsLead origin w parts v → v.state.puts ≡ w.state.puts
settles_keep_puts origin [] w v settling leads = ap (λ (x : World). x.state.puts) leads
settles_keep_puts origin (Part.Settling trace ∷ parts) w v settling leads =
    settles_keep_puts origin parts leads.0 v settling.1 leads.2
    ∙ settle_keeps_puts origin.vid (way.shape_of origin) w trace.event trace.reply leads.0 settling.0 leads.1
settles_keep_puts origin (part ∷ parts) w v settling leads = absurd settling

-- ---- how often files failed

settle_faultless : (event : TraceEvent) (reply : TraceReply) → IsSettle event reply → is_fault reply ≡ false
settle_faultless (kept_event.Settle disk kept) kept_reply.Done settle = refl
settle_faultless event reply settle = absurd settle

pub uncounted : (before count now : ℕ) → count ≡ 0 → before ≤ now → min (before + count) (2 ^ 64 - 1) ≤ now
uncounted before count now none more = omega arith

-- no fault is told
pub no_fault : (event : Event) (reply : Reply) (before now : ℕ) → is_fault (reply_kept reply) ≡ false → before ≤ now
    → min (before + fault_count (Part.Asking event reply ∷ [])) (2 ^ 64 - 1) ≤ now
no_fault event reply before now none more = uncounted before (fault_count (Part.Asking event reply ∷ [])) now (ap (λ b. cond b 1 0 + 0) none) more

at_most_one : (b : Bool) → cond b 1 0 ≤ 1
at_most_one true = omega arith
at_most_one false = omega arith

-- a file failed
pub one_fault : (event : Event) (reply : Reply) (before now : ℕ) → Rose before now → min (before + fault_count (Part.Asking event reply ∷ [])) (2 ^ 64 - 1) ≤ now
one_fault event reply before now rose = let one = at_most_one (is_fault (reply_kept reply)) in omega (arith, rose, one)

faults_on : (a b c f g fg : ℕ) → fg ≡ f + g → min (a + f) (2 ^ 64 - 1) ≤ b → min (b + g) (2 ^ 64 - 1) ≤ c → min (a + fg) (2 ^ 64 - 1) ≤ c
faults_on a b c f g fg e h k = omega arith

module _ {H F : Type 0} (shelf_seen : H → ShelfView F) (seen : F → FileView) where
  -- ---- the same volume

  -- it is the same volume, whose files may have failed meanwhile
  pub record SameVolume (old new : WorldOver H F) : Type 0 where
    pub vid : new.vid ≡ old.vid
    pub shape : new.shape ≡ old.shape
    pub first : new.first ≡ old.first
    pub told : is_told shelf_seen seen new ≡ is_told shelf_seen seen old
    pub quiet : is_quiet shelf_seen seen new ≡ is_quiet shelf_seen seen old
    pub count : faults_of shelf_seen seen old ≤ faults_of shelf_seen seen new

  pub origin_same : (old new : WorldOver H F) → SameVolume old new → origin_of shelf_seen seen new ≡ origin_of shelf_seen seen old
  origin_same old new same = λ i. record {
    vid = same.vid i;
    mode = (same.shape i).mode;
    disks = (same.shape i).disks;
    is_told = same.told i;
    is_quiet = same.quiet i;
    start = made_with (shape_of (same.shape i)).total (same.first i);
  }

  -- neither stations nor the manager's part change, nor what comes late
  abbrev pub OnlyBeside : WorldOver H F → WorldOver H F → Type 0
  OnlyBeside old new = new ≡ record old { puts = new.puts; planned = new.planned; time = new.time; history = new.history }

  pub same_beside : (old new : WorldOver H F) → OnlyBeside old new → SameVolume old new
  same_beside old new only = subst (λ (x : WorldOver H F). SameVolume old x) (sym only) (record { vid = refl; shape = refl; first = refl; told = refl; quiet = refl; count = omega arith })

  pub same_by : (parts : List Part) (old new : WorldOver H F) → Passes shelf_seen seen parts old new → SameVolume old new
  same_by parts old new passes =
      record { vid = passes.vid; shape = passes.shape; first = passes.first; told = passes.told; quiet = passes.quiet; count = passes.count }

  -- ---- what always holds

  late_fits : (old new : WorldOver H F) (item : LateItem) → SameVolume old new → FitsLate shelf_seen seen old item → FitsLate shelf_seen seen new item
  late_fits old new (items.Request request) same fits = subst (λ origin. FitsRequest origin request) (sym (origin_same old new same)) fits
  late_fits old new (items.Answer request answer) same fits = subst (λ origin. FitsRequest origin request) (sym (origin_same old new same)) fits

  -- what came late before fits still
  pub all_late_fit : (old new : WorldOver H F) → SameVolume old new → new.late.items ≡ old.late.items → IsSound shelf_seen seen old
      → (item : LateItem) → IsIn item new.late.items → FitsLate shelf_seen seen new item
  all_late_fit old new same late sound item there = late_fits old new item same (sound.late item (subst (IsIn item) late there))

  pub sound_beside : (old new : WorldOver H F) → OnlyBeside old new → length new.planned ≡ length old.planned → new.time ≤ last_time → length old.history.entries ≤ length new.history.entries
      → IsSound shelf_seen seen old → IsSound shelf_seen seen new
  sound_beside old new only planned time more sound =
      subst (λ (x : WorldOver H F). IsSound shelf_seen seen x) (sym only) (record {
        one = record { vid = sound.one.vid; shape = sound.one.shape; planned = planned ∙ sound.one.planned };
        disks = sound.disks;
        stations = sound.stations;
        count = sound.count;
        still = sound.still;
        flags = sound.flags;
        broken = sound.broken;
        time = time;
        end = end_in_time (length old.history.entries) (length new.history.entries) old.entry.book.log.end more sound.end;
        late = let aside : WorldOver H F = record old { puts = new.puts; planned = new.planned; time = new.time; history = new.history } in
            all_late_fit old aside (same_beside old aside refl) refl sound;
      })

  -- ---- stretches

  -- no entry comes
  pub passes_nothing : (old new : WorldOver H F) → SameVolume old new → IsSound shelf_seen seen new → new.history.entries ≡ old.history.entries
      → old.history.spare ≤ new.history.spare → ((w : World) → IsAt shelf_seen seen old w → IsAt shelf_seen seen new w) → Passes shelf_seen seen [] old new
  passes_nothing old new same sound entries spare at = record {
    vid = same.vid;
    shape = same.shape;
    first = same.first;
    sound = sound;
    entries = entries ∙ sym (append-nil old.history.entries);
    spare = omega (arith, spare);
    told = same.told;
    quiet = same.quiet;
    count = same.count;
    faults = omega (arith, same.count);
    leads = λ w is apart carries. (w, refl, at w is);
  }

  -- one entry comes
  one_entry : (old new : WorldOver H F) (part : Part) → SameVolume old new → IsSound shelf_seen seen new → IsNoted (trace_at part) old.history new.history
      → min (faults_of shelf_seen seen old + fault_count (part ∷ [])) (2 ^ 64 - 1) ≤ faults_of shelf_seen seen new
      → ((w : World) → IsAt shelf_seen seen old w → KeptApart (shape_of old.shape) w.state → CarryRight old.shape.mode w.state.puts (part ∷ [])
      → (v : World) × PartLeads (origin_of shelf_seen seen old) w part v × IsAt shelf_seen seen new v)
      → Passes shelf_seen seen (part ∷ []) old new
  one_entry old new part same sound noted faults leads = record {
    vid = same.vid;
    shape = same.shape;
    first = same.first;
    sound = sound;
    entries = noted.entries;
    spare = noted.spare;
    told = same.told;
    quiet = same.quiet;
    count = same.count;
    faults = faults;
    leads = λ w is apart carries. let led = leads w is apart carries in (led.0, (led.0, led.1, refl), led.2);
  }

  -- an event of our own
  pub passes_asking : (event : Event) (reply : Reply) (old new : WorldOver H F) → SameVolume old new → IsSound shelf_seen seen new
      → IsNoted (trace_of event reply) old.history new.history
      → min (faults_of shelf_seen seen old + fault_count (Part.Asking event reply ∷ [])) (2 ^ 64 - 1) ≤ faults_of shelf_seen seen new
      → ((w : World) → IsAt shelf_seen seen old w → KeptApart (shape_of old.shape) w.state → CarriesRight true old.shape.mode w.state.puts event
      → (v : World) × IsDone (origin_of shelf_seen seen old) w event reply v × IsAt shelf_seen seen new v)
      → Passes shelf_seen seen (Part.Asking event reply ∷ []) old new
  passes_asking event reply old new same sound noted faults leads =
      one_entry old new (Part.Asking event reply) same sound noted faults (λ w is apart carries. leads w is apart (carries event reply (inl refl)))

  -- a log that was shut is started
  pub passes_settling : (trace : Trace) (old new : WorldOver H F) → IsSettle trace.event trace.reply → SameVolume old new → IsSound shelf_seen seen new
      → IsNoted trace old.history new.history
      → ((w : World) → IsAt shelf_seen seen old w → KeptApart (shape_of old.shape) w.state → LeadsOn shelf_seen seen old w trace new × IsShort (length new.history.entries) (seen new.entry.book.log.file))
      → Passes shelf_seen seen (Part.Settling trace ∷ []) old new
  passes_settling trace old new settle same sound noted leads =
      one_entry old new (Part.Settling trace) same sound noted
      (uncounted (faults_of shelf_seen seen old) (fault_count (Part.Settling trace ∷ [])) (faults_of shelf_seen seen new)
      (ap (λ b. cond b 1 0 + 0) (settle_faultless trace.event trace.reply settle)) same.count)
      (λ w is apart carries. let led = leads w is apart in (led.0.then_, led.0.may_be, record { stands = led.0.stands; short = led.1 }))

  -- an event that isn't a send is done by its entry
  pub done_on : (event : Event) (reply : Reply) (old new : WorldOver H F) (w : World) → IsNoSend event → LeadsOn shelf_seen seen old w (trace_of event reply) new
      → IsShort (length new.history.entries) (seen new.entry.book.log.file)
      → (v : World) × IsDone (origin_of shelf_seen seen old) w event reply v × IsAt shelf_seen seen new v
  done_on event reply old new w no_send leads short =
      (leads.then_, done_by (origin_of shelf_seen seen old) w event reply leads.then_ no_send leads.may_be, record { stands = leads.stands; short = short })

  -- an event that leaves stations, manager's part and late messages as they are, and is answered by no fault
  pub passes_beside : (event : Event) (reply : Reply) (old new : WorldOver H F) → IsSound shelf_seen seen old → OnlyBeside old new
      → length new.planned ≡ length old.planned → new.time ≤ last_time → IsNoted (trace_of event reply) old.history new.history
      → IsNoSend event → is_fault (reply_kept reply) ≡ false
      → ((w : World) → Stands shelf_seen seen old w → LeadsOn shelf_seen seen old w (trace_of event reply) new)
      → Passes shelf_seen seen (Part.Asking event reply ∷ []) old new
  passes_beside event reply old new sound only planned time noted no_send none leads =
      let same = same_beside old new only in
      let long = noted_length (trace_of event reply) old.history new.history noted in
      passes_asking event reply old new same (sound_beside old new only planned time (omega (arith, long)) sound) noted
      (no_fault event reply (faults_of shelf_seen seen old) (faults_of shelf_seen seen new) none same.count)
      (λ w is apart carries. done_on event reply old new w no_send (leads w is.stands) (short_beside w is long)) where
        short_beside : (w : World) → IsAt shelf_seen seen old w → length new.history.entries ≡ length old.history.entries + 1
            → IsShort (length new.history.entries) (seen new.entry.book.log.file)
        short_beside w is long = subst (λ (x : WorldOver H F). IsShort (length new.history.entries) (seen x.entry.book.log.file)) (sym only)
            (still_short (length old.history.entries) (length new.history.entries) (seen old.entry.book.log.file) (omega (arith, long)) is.short)

  carries_on : (ps qs : List Part) (mode : Mode) (puts : Puts) → CarryRight mode puts (ps ++ qs) → CarryRight mode puts ps × CarryRight mode puts qs
  carries_on ps qs mode puts carries =
      ((λ event reply there. carries event reply (in_front (Part.Asking event reply) ps qs there)), (λ event reply there. carries event reply (in_back (Part.Asking event reply) ps qs there)))

  -- One stretch stands behind another. Which shards are the right ones for the second is as it was before the first.
  pub passes_then : (ps qs : List Part) (old mid new : WorldOver H F) → Passes shelf_seen seen ps old mid → Passes shelf_seen seen qs mid new
      → ((w v : World) → PartsLead (origin_of shelf_seen seen old) w ps v → CarryRight old.shape.mode w.state.puts qs → CarryRight old.shape.mode v.state.puts qs)
      → Passes shelf_seen seen (ps ++ qs) old new
  passes_then ps qs old mid new before after stay = record {
    vid = after.vid ∙ before.vid;
    shape = after.shape ∙ before.shape;
    first = after.first ∙ before.first;
    sound = after.sound;
    entries =
        after.entries ∙ ap (λ xs. xs ++ traces_of qs) before.entries ∙ append_assoc old.history.entries (traces_of ps) (traces_of qs)
        ∙ ap (λ xs. old.history.entries ++ xs) (sym (traces_on ps qs));
    spare = let sum = length-append ps qs in omega (arith, sum, before.spare, after.spare);
    told = after.told ∙ before.told;
    quiet = after.quiet ∙ before.quiet;
    count = omega (arith, before.count, after.count);
    faults = faults_on (faults_of shelf_seen seen old) (faults_of shelf_seen seen mid) (faults_of shelf_seen seen new)
        (fault_count ps) (fault_count qs) (fault_count (ps ++ qs)) (faults_more ps qs) before.faults after.faults;
    leads = led;
  } where
    led : (w : World) → IsAt shelf_seen seen old w → KeptApart (shape_of old.shape) w.state → CarryRight old.shape.mode w.state.puts (ps ++ qs)
        → (v : World) × PartsLead (origin_of shelf_seen seen old) w (ps ++ qs) v × IsAt shelf_seen seen new v
    led w is apart carries =
        let both = carries_on ps qs old.shape.mode w.state.puts carries in
        let one = before.leads w is apart both.0 in
        let right : CarryRight mid.shape.mode one.0.state.puts qs =
        subst (λ shape. CarryRight shape.mode one.0.state.puts qs) (sym before.shape) (stay w one.0 one.1 both.1) in
        let still : KeptApart (shape_of mid.shape) one.0.state =
        subst (λ shape. KeptApart (shape_of shape) one.0.state) (sym before.shape)
        (parts_apart (origin_of shelf_seen seen old) w ps one.0 (sound_shapes old.shape.mode old.shape.disks) one.1 apart) in
        let two = after.leads one.0 one.2 still right in
        let origin = origin_same old mid (same_by ps old mid before) in
        (two.0, leads_on (origin_of shelf_seen seen old) w one.0 two.0 ps qs one.1 (subst (λ o. PartsLead o one.0 qs two.0) origin two.1), two.2)

  -- .. and it stands behind settles
  pub passes_settled : (ps qs : List Part) (old mid new : WorldOver H F) → AreSettling ps → Passes shelf_seen seen ps old mid → Passes shelf_seen seen qs mid new
      → Passes shelf_seen seen (ps ++ qs) old new
  passes_settled ps qs old mid new settling before after = passes_then ps qs old mid new before after
      (λ w v leads carries. subst (λ puts. CarryRight old.shape.mode puts qs) (sym (settles_keep_puts (origin_of shelf_seen seen old) ps w v settling leads)) carries)

  -- ---- room for entries

  -- what is left of it behind a stretch
  pub room_behind : (many few : ℕ) (parts : List Part) (old new : WorldOver H F) → Passes shelf_seen seen parts old new → length parts + few ≤ many
      → HasRoom shelf_seen seen many old → HasRoom shelf_seen seen few new
  room_behind many few parts old new passes fewer room =
      let long = longer old.history.entries new.history.entries parts passes.entries in
      record { spare = omega (arith, fewer, room.spare, passes.spare); few = omega (arith, fewer, room.few, long) }

  -- ---- what an event does

  -- it is done, behind no settle
  pub done_alone : (event : Event) (reply : Reply) (old new : WorldOver H F) → MayReply (origin_of shelf_seen seen old) event reply
      → ShowsMoves (origin_of shelf_seen seen old) reply → Passes shelf_seen seen (Part.Asking event reply ∷ []) old new
      → Done shelf_seen seen 0 old new event reply
  done_alone event reply old new fits moves passes =
      record { settles = []; settling = tt; few = omega arith; fits = fits; moves = moves; passes = passes }

  -- nothing is done, and no log was started
  pub not_done_alone : (old new : WorldOver H F) → Passes shelf_seen seen [] old new → NotDone shelf_seen seen 0 old new
  not_done_alone old new passes = record { settles = []; settling = tt; few = omega arith; passes = passes }
