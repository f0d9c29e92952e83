-- Where the names of the tables come from.
use Rattle.std.proofs.Common.{◌≡◌, ◌∙◌, sym, ap, refl, subst, ℕ, inl, inr, ◌+◌, ◌-◌, ◌==◌, ◌⊎◌, Bool, true, false, cond, List, [], ◌∷◌, ◌++◌, length, Option, Some, None, Result, Ok, Err}
use Rattle.cluster_admin.specs.Cluster.{State}
use Rattle.cluster_admin.specs.declared.names.Object.{Object}
use Rattle.cluster_admin.specs.declared.picking.Seen.{Seen}
use Rattle.cluster_admin.specs.declared.volumes.Volume.{Volume}
use Rattle.cluster_admin.specs.declared.fault.AdminFault.{AdminFault}
use Rattle.cluster_admin.specs.declared.disks.Disk.{Disk}
use Rattle.cluster_admin.specs.Disks.{disk_at}
use Rattle.cluster_admin.specs.Picking.{last_bid, picked}
use Rattle.cluster_admin.specs.Refusals.{add_name_fault, first_fault}
use Rattle.cluster_admin.specs.declared.fault.AdminFault.TheVariants as faults
use Rattle.std.specs.Prelude.{is_some, nat_lt, unwrap_or, option_map}
use Rattle.unit_id.specs.Lists.{IsIn}
use Rattle.object_access.specs.declared.pieces.TheConstants.{OBJECT_LIMIT}
use Rattle.object_access.specs.Pieces.{blob_count}
use Rattle.volume_world.specs.declared.fault.StepFault.{StepFault}
use Rattle.volume_world.specs.declared.fault.StepFault.TheVariants.{Memory}
use Rattle.volume_turns.specs.declared.command.VolumeCommand.{VolumeCommand}
use Rattle.volume_turns.specs.declared.command.VolumeCommand.TheVariants as turns
use Rattle.volume_turns.specs.Session.{Turn}
use Rattle.volume_turns.specs.declared.reply.VolumeRefusal.{VolumeRefusal}
use Rattle.volume_turns.specs.declared.reply.VolumeReply.{VolumeReply}
use Rattle.volume_turns.specs.declared.reply.VolumeReply.TheVariants as played
use Rattle.volume_turns.specs.Answers.{Replied}
use Rattle.cluster_store.specs.declared.reply.Reply.{Reply}
use Rattle.cluster_store.specs.declared.reply.Reply.TheVariants as replies
use Rattle.cluster_store.specs.Plan.{Step, Plan, ByResult, Follows}
use Rattle.cluster_store.specs.declared.reply.Refusal.{Refusal}
use Rattle.cluster_store.specs.declared.reply.Refusal.TheVariants as causes
use Rattle.cluster_store.specs.Lines.{refused, done, told, refusal_in, earlier, asks_each, unless_refused, by_each, break_plan, breaks_disk, if_disk, if_volume, planned, flushed, fetched, got, get_plan, disks_plan, seen_by, looks_each, entered, put_picked, put_seen, put_named, put_plan, none_picked, spent_in}
use Rattle.cluster_store.specs.Store.{turns_at}
use Rattle.code_mode.specs.declared.mode.Mode.{Mode}
use Rattle.cluster_admin.specs.Drawing.{with_volume}
use Rattle.volume_world.specs.declared.world_fault.WorldFault.{WorldFault}
use Rattle.volume_world.specs.declared.world_fault.WorldFault.TheVariants as world_faults
use Rattle.cluster_store.specs.Answers.{breaks_in, lost_reply}
use Rattle.cluster_store.specs.Script.{is_put, IsRefusedIn, IsLostIn, IsMadeIn}
use Rattle.std.specs.Map.{lookup}
use Rattle.std.specs.Str.{bytes_eq}
use Rattle.cluster_store.proofs.Lists.{tells}
use Rattle.cluster_store.proofs.Plans.{step_at}

-- ---- ends of a plan

-- each end of a plan, with its tables and its reply
abbrev pub EachEnd : (State → Reply → Type 0) → Plan → Type 0
EachEnd P (Plan.Ask tables place command next) = (reply : VolumeReply) → EachEnd P (next reply)
EachEnd P (Plan.Over before behind reply) = P behind reply
EachEnd P Plan.Never = Unit {0}

abbrev whole : Reply → Result Reply StepFault
whole reply = Ok reply

over_end : (P : State → Reply → Type 0) (before behind new : State) (reply told : Reply) → ((new ≡ behind) × (whole reply ≡ Ok told)) ⊎ ((new ≡ before) × (whole reply ≡ Err Memory)) → P behind told → P new reply
over_end P before behind new reply told (inl h) end =
    let same : reply ≡ told = cc h.1 in
    subst (λ (t : State). P t reply) (sym h.0) (subst (λ (r : Reply). P behind r) (sym same) end)
over_end P before behind new reply told (inr h) end = absurd (cc h.1)

by_reply : {A : Type 0} (result : Replied) (given : VolumeReply → Type 0) (broken : StepFault → Type 0) → ByResult result given broken → ((reply : VolumeReply) → given reply → A) → ((fault : StepFault) → broken fault → A) → A
by_reply (Ok reply) given broken h f g = f reply h
by_reply (Err fault) given broken h f g = g fault h

-- .. with what the result is
pub by_result : {A : Type 0} (result : Replied) (given : VolumeReply → Type 0) (broken : StepFault → Type 0) → ByResult result given broken → ((reply : VolumeReply) → result ≡ Ok reply → given reply → A) → ((fault : StepFault) → broken fault → A) → A
by_result (Ok reply) given broken h f g = f reply refl h
by_result (Err fault) given broken h f g = g fault h

in_cond : (b : Bool) (turn other : Turn) (turns : List Turn) → IsIn turn turns → IsIn turn (cond b (other ∷ turns) turns)
in_cond true turn other turns h = inr h
in_cond false turn other turns h = h

own_first : (place : ℕ) (turn : Turn) (steps : List Step) → IsIn turn (turns_at place (step_at place turn ∷ steps))
own_first place turn steps = elim (tells place place) [
  | inl same ↦ subst (λ (b : Bool). IsIn turn (cond b (turn ∷ turns_at place steps) (turns_at place steps))) (sym same.0) (inl refl)
  | inr other ↦ absurd (other.1 refl)
]

pub at_end : (P : State → Reply → Type 0) (plan : Plan) (steps : List Step) (new : State) (reply : Reply) → Follows plan steps new (Ok reply) → EachEnd P plan → P new reply
at_end P (Plan.Over before behind told) [] new reply h end = over_end P before behind new reply told h end
at_end P (Plan.Over before behind told) (step ∷ steps) new reply h end = absurd h
at_end P (Plan.Ask tables place command next) [] new reply h end = absurd (cc h.1)
at_end P (Plan.Ask tables place command next) (step ∷ steps) new reply h end =
    by_reply step.turn.result (λ told. Follows (next told) steps new (Ok reply)) (λ fault. (steps ≡ []) × (new ≡ tables) × (Ok reply ≡ Err fault)) h.2
    (λ told rest. at_end P (next told) steps new reply rest (end told)) (λ fault rest. absurd (cc rest.2))
at_end P Plan.Never steps new reply h end = absurd h

-- ---- names that stay

-- the names are these, and nothing was put
pub record KeepsNames (names : List (List ℕ × Object)) (new : State) (reply : Reply) : Type 0 where
  pub names_are : new.names ≡ names
  pub unput : is_put reply ≡ false

pub told_unput : (reply : Reply) (refusal : Option VolumeRefusal) → is_put reply ≡ false → is_put (told reply refusal) ≡ false
told_unput reply None h = h
told_unput reply (Some refusal) h = refl

pub keeps : (tables : State) (reply : Reply) → is_put reply ≡ false → KeepsNames tables.names tables reply
keeps tables reply h = record { names_are = refl; unput = h }

each_asked : (P : State → Reply → Type 0) (tables : State) (command : VolumeCommand) (place : ℕ) (slots : List (Option Volume)) (first : Option VolumeRefusal) (behind : Option VolumeRefusal → Plan)
    → ((last : Option VolumeRefusal) → EachEnd P (behind last)) → EachEnd P (asks_each tables command place slots first behind)
each_asked P tables command place [] first behind h = h first
each_asked P tables command place (None ∷ slots) first behind h = each_asked P tables command (place + 1) slots first behind h
each_asked P tables command place (Some volume ∷ slots) first behind h = λ reply. each_asked P tables command (place + 1) slots (earlier first (refusal_in reply)) behind h

pub by_each_keeps : (names : List (List ℕ × Object)) (tables : State) (command : VolumeCommand) (reply : Reply) → tables.names ≡ names → is_put reply ≡ false → EachEnd (KeepsNames names) (by_each tables command reply)
by_each_keeps names tables command reply e h =
    each_asked (KeepsNames names) tables command 0 tables.volumes None (unless_refused tables reply) (λ last. record { names_are = e; unput = told_unput reply last h })

pub disks_keep : (tables : State) (count : ℕ) (fault : Option AdminFault) → EachEnd (KeepsNames tables.names) (disks_plan tables count fault)
disks_keep tables count (Some fault) = keeps tables _ refl
disks_keep tables count None = record { names_are = refl; unput = refl }

pub break_keeps : (tables : State) (disk : ℕ) (fault : Option AdminFault) → EachEnd (KeepsNames tables.names) (break_plan tables disk fault)
break_keeps tables disk (Some fault) = keeps tables _ refl
break_keeps tables disk None = by_each_keeps tables.names (breaks_disk tables disk) _ _ refl refl

cond_keeps : (P : State → Reply → Type 0) (b : Bool) (plan other : Plan) → EachEnd P plan → EachEnd P other → EachEnd P (cond b plan other)
cond_keeps P true plan other h k = h
cond_keeps P false plan other h k = k

pub if_disk_keeps : (tables : State) (disk : ℕ) (plan : Plan) → EachEnd (KeepsNames tables.names) plan → EachEnd (KeepsNames tables.names) (if_disk tables disk plan)
if_disk_keeps tables disk plan h = cond_keeps (KeepsNames tables.names) (is_some (disk_at tables.disks disk)) plan _ h (keeps tables _ refl)

pub if_volume_keeps : (tables : State) (volume : Option Volume) (plan : Plan) → EachEnd (KeepsNames tables.names) plan → EachEnd (KeepsNames tables.names) (if_volume tables volume plan)
if_volume_keeps tables (Some volume) plan h = h
if_volume_keeps tables None plan h = keeps tables _ refl

pub planned_keeps : (tables : State) (reply : VolumeReply) → EachEnd (KeepsNames tables.names) (planned tables reply)
planned_keeps tables reply = record { names_are = refl; unput = told_unput _ (refusal_in reply) refl }

pub flushed_keeps : (tables : State) (reply : VolumeReply) → EachEnd (KeepsNames tables.names) (flushed tables reply)
flushed_keeps tables (played.Flushed requests answers) = keeps tables _ refl
flushed_keeps tables (played.Refused refusal) = keeps tables _ refl
flushed_keeps tables reply = tt

pub fetched_keeps : (tables : State) (reply : VolumeReply) → EachEnd (KeepsNames tables.names) (fetched tables reply)
fetched_keeps tables (played.Fetched bytes) = keeps tables _ refl
fetched_keeps tables (played.Refused refusal) = keeps tables _ refl
fetched_keeps tables reply = tt

got_keeps : (tables : State) (reply : VolumeReply) → EachEnd (KeepsNames tables.names) (got tables reply)
got_keeps tables (played.Got bytes) = keeps tables _ refl
got_keeps tables (played.Refused refusal) = keeps tables _ refl
got_keeps tables reply = tt

pub get_keeps : (tables : State) (object : Option Object) → EachEnd (KeepsNames tables.names) (get_plan tables object)
get_keeps tables None = keeps tables _ refl
get_keeps tables (Some object) = got_keeps tables

breaks_keep : (names : List (List ℕ × Object)) (tables : State) (place : ℕ) (disks : List ℕ) (reply : Reply) → tables.names ≡ names → is_put reply ≡ false → EachEnd (KeepsNames names) (breaks_in tables place disks reply)
breaks_keep names tables place [] reply e h = record { names_are = e; unput = h }
breaks_keep names tables place (disk ∷ disks) reply e h = λ given. breaks_keep names tables place disks reply e h

-- ---- a put

-- an object was put, and its name entered
pub record IsPutBy (tables : State) (name bytes : List ℕ) (steps : List Step) (new : State) (reply : Reply) : Type 0 where
  pub vid : ℕ
  pub bid : ℕ
  pub turn : Turn
  pub there : IsIn turn (turns_at (vid - 1) steps)
  pub command : turn.command ≡ turns.Put bid bytes
  pub result : turn.result ≡ Ok played.Put
  pub is_new : lookup (bytes_eq name) tables.names ≡ None
  pub names_are : new.names ≡ tables.names ++ (name, record { vid = vid; bid = bid; size = length bytes }) ∷ []
  pub told : reply ≡ replies.Put vid bid (length bytes)

abbrev PutsOrKeeps : State → List ℕ → List ℕ → List Step → State → Reply → Type 0
PutsOrKeeps tables name bytes steps new reply = KeepsNames tables.names new reply ⊎ IsPutBy tables name bytes steps new reply

-- a refusal of a put
kept_refusal : (names : List (List ℕ × Object)) (tables new : State) (cause : Refusal) (steps : List Step) (reply : Reply) → tables.names ≡ names → Follows (refused tables cause) steps new (Ok reply) → KeepsNames names new reply
kept_refusal names tables new cause steps reply e h = at_end (KeepsNames names) (refused tables cause) steps new reply h (record { names_are = e; unput = refl })

entered_names : (tables spent new : State) (name bytes : List ℕ) (vid bid : ℕ) (fresh_name : lookup (bytes_eq name) tables.names ≡ None) (turn : Turn) (steps : List Step) (given : VolumeReply) (reply : Reply) → spent.names ≡ tables.names → turn.command ≡ turns.Put bid bytes → turn.result ≡ Ok given
    → Follows (entered spent name (record { vid = vid; bid = bid; size = length bytes }) given) steps new (Ok reply) → PutsOrKeeps tables name bytes (step_at (vid - 1) turn ∷ steps) new reply
entered_names tables spent new name bytes vid bid fresh_name turn [] played.Put reply e command result h = elim h [
  | inl done ↦ inr (record {
    vid = vid;
    bid = bid;
    turn = turn;
    there = own_first (vid - 1) turn [];
    command = command;
    result = result;
    is_new = fresh_name;
    names_are = ap (λ (t : State). t.names) done.0 ∙ ap (λ (ns : List (List ℕ × Object)). ns ++ (name, record { vid = vid; bid = bid; size = length bytes }) ∷ []) e;
    told = cc done.1;
  })
  | inr wants ↦ absurd (cc wants.1)
]
entered_names tables spent new name bytes vid bid fresh_name turn (step ∷ steps) played.Put reply e command result h = absurd h
entered_names tables spent new name bytes vid bid fresh_name turn steps (played.Refused refusal) reply e command result h = inl (kept_refusal tables.names spent new (causes.OfVolume refusal) steps reply e h)
entered_names tables spent new name bytes vid bid fresh_name turn steps given reply e command result h = absurd h

picked_names : (tables new : State) (name bytes : List ℕ) (fresh_name : lookup (bytes_eq name) tables.names ≡ None) (vid last : ℕ) (steps : List Step) (reply : Reply) (b : Bool)
    → Follows (cond b (refused tables causes.Limit) (Plan.Ask (spent_in tables vid (last + blob_count (length bytes))) (vid - 1) (turns.Put (last + 1) bytes)
    (entered (spent_in tables vid (last + blob_count (length bytes))) name (record { vid = vid; bid = last + 1; size = length bytes })))) steps new (Ok reply)
    → PutsOrKeeps tables name bytes steps new reply
picked_names tables new name bytes fresh_name vid last steps reply true h = inl (kept_refusal tables.names tables new causes.Limit steps reply refl h)
picked_names tables new name bytes fresh_name vid last [] reply false h = absurd (cc h.1)
picked_names tables new name bytes fresh_name vid last (step ∷ steps) reply false h =
    let spent = spent_in tables vid (last + blob_count (length bytes)) in
    subst (λ (p : ℕ). PutsOrKeeps tables name bytes (step_at p step.turn ∷ steps) new reply) (sym h.0)
    (by_result step.turn.result (λ told. Follows (entered spent name (record { vid = vid; bid = last + 1; size = length bytes }) told) steps new (Ok reply)) (λ fault. (steps ≡ []) × (new ≡ spent) × (Ok reply ≡ Err fault)) h.2
    (λ given is rest. entered_names tables spent new name bytes vid (last + 1) fresh_name step.turn steps given reply refl h.1 is rest)
    (λ fault rest. absurd (cc rest.2)))

seen_names : {C : Type 0} (vid last : C → ℕ) (tables new : State) (name bytes : List ℕ) (fresh_name : lookup (bytes_eq name) tables.names ≡ None) (first : Option VolumeRefusal) (best : Option C) (steps : List Step) (reply : Reply)
    → Follows (unwrap_or (option_map (λ b. put_picked tables name bytes (vid b) (last b)) best) (refused tables (none_picked first))) steps new (Ok reply) → PutsOrKeeps tables name bytes steps new reply
seen_names vid last tables new name bytes fresh_name first None steps reply h = inl (kept_refusal tables.names tables new _ steps reply refl h)
seen_names vid last tables new name bytes fresh_name first (Some best) steps reply h =
    picked_names tables new name bytes fresh_name (vid best) (last best) steps reply (nat_lt last_bid (last best + blob_count (length bytes))) h

-- looks before a put say nothing of names
looked_more : (tables new : State) (name bytes : List ℕ) (step : Step) (steps : List Step) (reply : Reply) → PutsOrKeeps tables name bytes steps new reply → PutsOrKeeps tables name bytes (step ∷ steps) new reply
looked_more tables new name bytes step steps reply (inl h) = inl h
looked_more tables new name bytes step steps reply (inr h) = inr (record {
  vid = h.vid;
  bid = h.bid;
  turn = h.turn;
  there = in_cond (step.place == (h.vid - 1)) h.turn step.turn (turns_at (h.vid - 1) steps) h.there;
  command = h.command;
  result = h.result;
  is_new = h.is_new;
  names_are = h.names_are;
  told = h.told;
})

looks_names : (tables new : State) (name bytes : List ℕ) (fresh_name : lookup (bytes_eq name) tables.names ≡ None) (place : ℕ) (slots : List (Option Volume)) (seen : List Seen) (first : Option VolumeRefusal) (steps : List Step) (reply : Reply)
    → Follows (looks_each tables place slots seen first (put_seen tables name bytes)) steps new (Ok reply) → PutsOrKeeps tables name bytes steps new reply
looks_names tables new name bytes fresh_name place [] seen first steps reply h = seen_names (λ c. c.vid) (λ c. c.last) tables new name bytes fresh_name first (picked tables.volumes seen) steps reply h
looks_names tables new name bytes fresh_name place (None ∷ slots) seen first steps reply h = looks_names tables new name bytes fresh_name (place + 1) slots seen first steps reply h
looks_names tables new name bytes fresh_name place (Some volume ∷ slots) seen first [] reply h = absurd (cc h.1)
looks_names tables new name bytes fresh_name place (Some volume ∷ slots) seen first (step ∷ steps) reply h =
    looked_more tables new name bytes step steps reply
    (by_result step.turn.result (λ told. Follows (looks_each tables (place + 1) slots (seen ++ seen_by told ∷ []) (earlier first (refusal_in told)) (put_seen tables name bytes)) steps new (Ok reply))
    (λ fault. (steps ≡ []) × (new ≡ tables) × (Ok reply ≡ Err fault)) h.2
    (λ told is rest. looks_names tables new name bytes fresh_name (place + 1) slots (seen ++ seen_by told ∷ []) (earlier first (refusal_in told)) steps reply rest)
    (λ fault rest. absurd (cc rest.2)))

-- the tables have no such name
unheld : (tables : State) (name : List ℕ) (found : Option Object) (b : Bool) → first_fault ((is_some found, faults.NameTaken) ∷ (b, faults.LimitNames) ∷ []) ≡ None → found ≡ None
unheld tables name None b h = refl
unheld tables name (Some object) b h = absurd (cc h)

named_names : (tables new : State) (name bytes : List ℕ) (fault : Option AdminFault) (steps : List Step) (reply : Reply) → add_name_fault tables name ≡ fault → Follows (put_named tables name bytes fault) steps new (Ok reply)
    → PutsOrKeeps tables name bytes steps new reply
named_names tables new name bytes (Some fault) steps reply e h = inl (kept_refusal tables.names tables new _ steps reply refl h)
named_names tables new name bytes None steps reply e h =
    looks_names tables new name bytes (unheld tables name (lookup (bytes_eq name) tables.names) (nat_lt 99999 (length tables.names)) e) 0 tables.volumes [] None steps reply h

sized_names : (tables new : State) (name bytes : List ℕ) (steps : List Step) (reply : Reply) (b c : Bool)
    → Follows (cond b (refused tables causes.Empty) (cond c (refused tables causes.TooLarge) (put_named tables name bytes (add_name_fault tables name)))) steps new (Ok reply) → PutsOrKeeps tables name bytes steps new reply
sized_names tables new name bytes steps reply true c h = inl (kept_refusal tables.names tables new causes.Empty steps reply refl h)
sized_names tables new name bytes steps reply false true h = inl (kept_refusal tables.names tables new causes.TooLarge steps reply refl h)
sized_names tables new name bytes steps reply false false h = named_names tables new name bytes (add_name_fault tables name) steps reply refl h

pub put_names : (tables new : State) (name bytes : List ℕ) (steps : List Step) (reply : Reply) → Follows (put_plan tables name bytes) steps new (Ok reply) → PutsOrKeeps tables name bytes steps new reply
put_names tables new name bytes steps reply h = sized_names tables new name bytes steps reply (length bytes == 0) (nat_lt OBJECT_LIMIT (length bytes)) h

-- ---- a volume

lost_unput : (cause : WorldFault) (reply : Reply) → whole reply ≡ lost_reply cause → is_put reply ≡ false
lost_unput world_faults.Fault reply h = let same : reply ≡ replies.Refused causes.Fault = cc h in ap is_put same
lost_unput (world_faults.Damaged kept computed) reply h = let same : reply ≡ replies.Refused causes.Damaged = cc h in ap is_put same
lost_unput (world_faults.Spoiled place) reply h = let same : reply ≡ replies.Refused (causes.Spoiled place) = cc h in ap is_put same
lost_unput world_faults.Memory reply h = absurd (cc h)

pub volume_keeps : (mode : Mode) (old : State) (steps : List Step) (new : State) (reply : Reply) → IsRefusedIn mode old new steps reply ⊎ IsLostIn mode old new steps reply ⊎ IsMadeIn mode old new steps reply
    → KeepsNames old.names new reply
volume_keeps mode old steps new reply (inl r) = record { names_are = ap (λ (t : State). t.names) r.tables; unput = ap is_put r.told }
volume_keeps mode old steps new reply (inr (inl l)) = record { names_are = ap (λ (t : State). t.names) l.tables; unput = lost_unput l.cause reply l.told }
volume_keeps mode old steps new reply (inr (inr m)) = at_end (KeepsNames old.names) _ steps new reply m.breaks (breaks_keep old.names (with_volume old mode m.disks) _ _ _ refl refl)
