-- Each name of the tables stands for an object that a line put.
use Rattle.std.proofs.Common.{◌≡◌, ◌∙◌, sym, ap, refl, subst, ℕ, inl, inr, ◌+◌, ◌-◌, ◌⊎◌, Bool, true, false, cond, List, [], ◌∷◌, ◌++◌, length, Option, Some, None, Result, Ok, Err, append_assoc, append-nil}
use Rattle.std.specs.Map.{lookup}
use Rattle.std.specs.Str.{bytes_eq}
use Rattle.std.specs.String.{string_bytes}
use Rattle.std.proofs.lemmas.Slice.Eq.{bytes_eq-Decides}
use Rattle.unit_id.specs.Lists.{IsIn}
use Rattle.code_mode.specs.Payload.{payload_bytes}
use Rattle.cluster_admin.specs.Cluster.{State}
use Rattle.cluster_admin.specs.declared.names.Object.{Object}
use Rattle.cluster_admin.specs.Volumes.{volume_at}
use Rattle.cluster_admin.specs.Refusals.{break_fault, set_disks_fault}
use Rattle.volume_turns.specs.declared.command.VolumeCommand.TheVariants as turns
use Rattle.volume_turns.specs.declared.reply.VolumeReply.TheVariants as played
use Rattle.volume_turns.specs.Session.{Turn}
use Rattle.cluster_store.specs.declared.command.Command.{Command}
use Rattle.cluster_store.specs.declared.command.Command.TheVariants as commands
use Rattle.cluster_store.specs.declared.reply.Reply.{Reply}
use Rattle.cluster_store.specs.declared.reply.Reply.TheVariants as replies
use Rattle.cluster_store.specs.Plan.{Step, Follows}
use Rattle.cluster_store.specs.Lines.{plan_of}
use Rattle.cluster_store.specs.Store.{turns_at}
use Rattle.cluster_store.specs.Script.{Line, Leads, LinesLead, turns_of, is_put, named_by, entered_by, entered_from, last_put}
use Rattle.cluster_store.proofs.Lookups.{or_else, lookup_more}
use Rattle.cluster_store.proofs.Scripts.{turns_more}
use Rattle.cluster_store.proofs.Puts.{at_end, KeepsNames, IsPutBy, put_names, disks_keep, get_keeps, if_volume_keeps, if_disk_keeps, fetched_keeps, planned_keeps, flushed_keeps, break_keeps, by_each_keeps, volume_keeps}

-- ---- one line

-- a line entered a name, or left all names
pub record EntersName (command : Command) (old : State) (steps : List Step) (new : State) (reply : Reply) : Type 0 where
  pub name : List ℕ
  pub bytes : List ℕ
  pub put : IsPutBy old name bytes steps new reply
  pub enters : (other : List ℕ) (before : Option (List ℕ)) → named_by other command before ≡ cond (bytes_eq other name) (Some bytes) before

abbrev LeavesNames : Command → State → List Step → State → Reply → Type 0
LeavesNames command old steps new reply = KeepsNames old.names new reply ⊎ EntersName command old steps new reply

put_leaves : (name : _) (object : _) (old : State) (steps : List Step) (new : State) (reply : Reply) → Leads (commands.Put name object) old steps new reply → LeavesNames (commands.Put name object) old steps new reply
put_leaves name object old steps new reply h = elim (put_names old new (string_bytes name) (payload_bytes object) steps reply h) [
  | inl k ↦ inl k
  | inr p ↦ inr (record { name = string_bytes name; bytes = payload_bytes object; put = p; enters = λ other before. refl })
]

leaves : (command : Command) (old : State) (steps : List Step) (new : State) (reply : Reply) → Leads command old steps new reply → LeavesNames command old steps new reply
leaves (commands.Disks count) old steps new reply h = inl (at_end (KeepsNames old.names) (plan_of old (commands.Disks count)) steps new reply h (disks_keep old count (set_disks_fault old count)))
leaves (commands.Volume mode) old steps new reply h = inl (volume_keeps mode old steps new reply h)
leaves (commands.Put name object) old steps new reply h = put_leaves name object old steps new reply h
leaves (commands.Get name) old steps new reply h = inl (at_end (KeepsNames old.names) (plan_of old (commands.Get name)) steps new reply h (get_keeps old (lookup (bytes_eq (string_bytes name)) old.names)))
leaves (commands.Fetch vid bid size) old steps new reply h =
    inl (at_end (KeepsNames old.names) (plan_of old (commands.Fetch vid bid size)) steps new reply h (if_volume_keeps old (volume_at old.volumes vid) _ (fetched_keeps old)))
leaves (commands.Tick by) old steps new reply h = inl (at_end (KeepsNames old.names) (plan_of old (commands.Tick by)) steps new reply h (by_each_keeps old.names old _ _ refl refl))
leaves (commands.Break disk) old steps new reply h = inl (at_end (KeepsNames old.names) (plan_of old (commands.Break disk)) steps new reply h (break_keeps old disk (break_fault old disk)))
leaves (commands.Plan vid disk fate count) old steps new reply h =
    inl (at_end (KeepsNames old.names) (plan_of old (commands.Plan vid disk fate count)) steps new reply h (if_volume_keeps old (volume_at old.volumes vid) _ (if_disk_keeps old disk _ (planned_keeps old))))
leaves (commands.Flush vid) old steps new reply h = inl (at_end (KeepsNames old.names) (plan_of old (commands.Flush vid)) steps new reply h (if_volume_keeps old (volume_at old.volumes vid) _ (flushed_keeps old)))
leaves (commands.Restart disk) old steps new reply h = inl (at_end (KeepsNames old.names) (plan_of old (commands.Restart disk)) steps new reply h (if_disk_keeps old disk _ (by_each_keeps old.names old _ _ refl refl)))
leaves commands.RestartManager old steps new reply h = inl (at_end (KeepsNames old.names) (plan_of old commands.RestartManager) steps new reply h (by_each_keeps old.names old _ _ refl refl))

-- ---- what a name stands for

entered_more : (name : List ℕ) (before : Option (List ℕ)) (lines : List Line) (line : Line) → entered_from name before (lines ++ line ∷ []) ≡ entered_by name line.command line.reply (entered_from name before lines)
entered_more name before [] line = refl
entered_more name before (first ∷ lines) line = entered_more name (entered_by name first.command first.reply before) lines line

-- a name of the tables stands for the object of a put
pub record WasPut (lines : List Line) (name : List ℕ) (object : Object) : Type 0 where
  pub bytes : List ℕ
  pub last : last_put lines name ≡ Some bytes
  pub turn : Turn
  pub there : IsIn turn (turns_of (object.vid - 1) lines)
  pub command : turn.command ≡ turns.Put object.bid bytes
  pub result : turn.result ≡ Ok played.Put
  pub size : object.size ≡ length bytes

abbrev pub HasNames : List Line → State → Type 0
HasNames lines tables = (name : List ℕ) (object : Object) → lookup (bytes_eq name) tables.names ≡ Some object → WasPut lines name object

in_first : {A : Type 0} (x : A) (xs ys : List A) → IsIn x xs → IsIn x (xs ++ ys)
in_first x [] ys h = absurd h
in_first x (y ∷ xs) ys h = elim h [ inl e ↦ inl e | inr there ↦ inr (in_first x xs ys there) ]

in_last : {A : Type 0} (x : A) (xs ys : List A) → IsIn x ys → IsIn x (xs ++ ys)
in_last x [] ys h = h
in_last x (y ∷ xs) ys h = inr (in_last x xs ys h)

-- the turn of an earlier line
turn_stays : (lines : List Line) (line : Line) (place : ℕ) (turn : Turn) → IsIn turn (turns_of place lines) → IsIn turn (turns_of place (lines ++ line ∷ []))
turn_stays lines line place turn h = subst (λ (ts : List Turn). IsIn turn ts) (sym (turns_more place lines line)) (in_first turn (turns_of place lines) (turns_at place line.steps) h)

kept_more : (lines : List Line) (line : Line) (old new : State) → KeepsNames old.names new line.reply → HasNames lines old → HasNames (lines ++ line ∷ []) new
kept_more lines line old new k h name object found =
    let was = h name object (ap (lookup (bytes_eq name)) (sym k.names_are) ∙ found) in
    record {
      bytes = was.bytes;
      last = entered_more name None lines line ∙ ap (λ (b : Bool). cond b (named_by name line.command (last_put lines name)) (last_put lines name)) k.unput ∙ was.last;
      turn = was.turn;
      there = turn_stays lines line (object.vid - 1) was.turn was.there;
      command = was.command;
      result = was.result;
      size = was.size;
    }

-- ---- a name more

same_name : (name other : List ℕ) → bytes_eq name other ≡ true → name ≡ other
same_name name other h = (bytes_eq-Decides name other).0 h

put_reply : (reply : Reply) (vid bid size : ℕ) → reply ≡ replies.Put vid bid size → is_put reply ≡ true
put_reply reply vid bid size e = ap is_put e

-- an older name
older_more : (lines : List Line) (line : Line) (old new : State) (e : EntersName line.command old line.steps new line.reply) → HasNames lines old → (name : List ℕ) (object : Object) (b : Bool) → bytes_eq name e.name ≡ b
    → lookup (bytes_eq name) old.names ≡ Some object → WasPut (lines ++ line ∷ []) name object
older_more lines line old new e h name object true is found =
    absurd (let none : None ≡ Some object = sym (ap (λ (n : List ℕ). lookup (bytes_eq n) old.names) (same_name name e.name is) ∙ e.put.is_new) ∙ found in cc)
older_more lines line old new e h name object false is found =
    let was = h name object found in
    record {
      bytes = was.bytes;
      last = entered_more name None lines line ∙ ap (λ (b : Bool). cond b (named_by name line.command (last_put lines name)) (last_put lines name)) (put_reply line.reply _ _ _ e.put.told)
          ∙ e.enters name (last_put lines name) ∙ ap (λ (b : Bool). cond b (Some e.bytes) (last_put lines name)) is ∙ was.last;
      turn = was.turn;
      there = turn_stays lines line (object.vid - 1) was.turn was.there;
      command = was.command;
      result = was.result;
      size = was.size;
    }

entered_name : (lines : List Line) (line : Line) (old new : State) (e : EntersName line.command old line.steps new line.reply) → HasNames lines old → (name : List ℕ) (object : Object) (found : Option Object) → lookup (bytes_eq name) old.names ≡ found
    → (b : Bool) → bytes_eq name e.name ≡ b → or_else found (cond b (Some (record { vid = e.put.vid; bid = e.put.bid; size = length e.bytes })) None) ≡ Some object → WasPut (lines ++ line ∷ []) name object
entered_name lines line old new e h name object (Some other) is b same found = older_more lines line old new e h name object b same (is ∙ found)
entered_name lines line old new e h name object None is false same found = absurd (cc found)
entered_name lines line old new e h name object None is true same found =
    let entered : record { vid = e.put.vid; bid = e.put.bid; size = length e.bytes } ≡ object = cc found in
    subst (λ (o : Object). WasPut (lines ++ line ∷ []) name o) entered (record {
      bytes = e.bytes;
      last = entered_more name None lines line ∙ ap (λ (b : Bool). cond b (named_by name line.command (last_put lines name)) (last_put lines name)) (put_reply line.reply _ _ _ e.put.told)
          ∙ e.enters name (last_put lines name) ∙ ap (λ (b : Bool). cond b (Some e.bytes) (last_put lines name)) same;
      turn = e.put.turn;
      there = subst (λ (ts : List Turn). IsIn e.put.turn ts) (sym (turns_more (e.put.vid - 1) lines line)) (in_last e.put.turn (turns_of (e.put.vid - 1) lines) (turns_at (e.put.vid - 1) line.steps) e.put.there);
      command = e.put.command;
      result = e.put.result;
      size = refl;
    })

names_more : (lines : List Line) (line : Line) (old new : State) → LeavesNames line.command old line.steps new line.reply → HasNames lines old → HasNames (lines ++ line ∷ []) new
names_more lines line old new (inl k) h = kept_more lines line old new k h
names_more lines line old new (inr e) h = λ name object found.
    entered_name lines line old new e h name object (lookup (bytes_eq name) old.names) refl (bytes_eq name e.name) refl
    (sym (lookup_more name old.names (e.name, record { vid = e.put.vid; bid = e.put.bid; size = length e.bytes })) ∙ ap (lookup (bytes_eq name)) (sym e.put.names_are) ∙ found)

names_from : (done lines : List Line) (old new : State) → HasNames done old → LinesLead old lines new → HasNames (done ++ lines) new
names_from done [] old new h lead = λ name object found.
    subst (λ (ls : List Line). WasPut ls name object) (sym (append-nil done)) (h name object (ap (λ (t : State). lookup (bytes_eq name) t.names) (sym lead) ∙ found))
names_from done (line ∷ lines) old new h lead =
    subst (λ (ls : List Line). HasNames ls new) (append_assoc done (line ∷ []) lines)
    (names_from (done ++ line ∷ []) lines lead.0 new (names_more done line old lead.0 (leaves line.command old line.steps lead.0 line.reply lead.1) h) lead.2)

pub names_put : (start new : State) (lines : List Line) → start.names ≡ [] → LinesLead start lines new → HasNames lines new
names_put start new lines none lead = names_from [] lines start new (λ name object found. absurd (let e : None ≡ Some object = sym (ap (lookup (bytes_eq name)) none) ∙ found in cc)) lead
