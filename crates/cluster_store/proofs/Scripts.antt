-- One command more.
use Rattle.std.proofs.Common.{◌≡◌, ◌∙◌, sym, ap, refl, subst, ℕ, inl, inr, ◌+◌, ◌==◌, ◌⊎◌, Bool, true, false, cond, List, [], ◌∷◌, ◌++◌, length, Option, Some, None, Result, Ok, Err, append_assoc, append-nil}
use Rattle.std.specs.Prelude.{slice_get}
use Rattle.disk_base.specs.Disk.{FileView}
use Rattle.disk_base.specs.Shelves.{ShelfView}
use Rattle.disk_base.specs.Farms.{FarmView}
use Rattle.code_mode.specs.declared.mode.Mode.{Mode}
use Rattle.cluster_admin.specs.Cluster.{State}
use Rattle.volume_turns.specs.Session.{Turn}
use Rattle.volume_turns.proofs.Sessions.{session_none, sessions_join}
use Rattle.cluster_store.specs.declared.command.Command.{Command}
use Rattle.cluster_store.specs.declared.command.Command.TheVariants as commands
use Rattle.cluster_store.specs.declared.reply.Reply.{Reply}
use Rattle.cluster_store.specs.declared.reply.Reply.TheVariants as replies
use Rattle.volume_maker.specs.Making.{next_number}
use Rattle.cluster_store.specs.Plan.{Step, Follows}
use Rattle.cluster_store.specs.Lines.{plan_of}
use Rattle.cluster_store.specs.Store.{OpenedOver, StoreOver, turns_at, way_at, IsSlotSession, AreSessions}
use Rattle.cluster_store.specs.Asking.{Played}
use Rattle.cluster_store.specs.Answers.{Answers, MakesOne, bad_disks, breaks_in, IsRefusedVolume, IsLostVolume, IsMadeVolume}
use Rattle.cluster_store.specs.Script.{Line, Leads, LinesLead, turns_of, IsHistory, IsSlotHistory, IsScript, GoesOn, OneCommandMore}
use Rattle.cluster_store.proofs.Lists.{get_last, get_before, get_none, tells}

abbrev line_of : Command → List Step → Reply → Line
line_of command steps reply = record { command = command; steps = steps; reply = reply }

leads_more : (start mid new : State) (lines : List Line) (line : Line) → LinesLead start lines mid → Leads line.command mid line.steps new line.reply → LinesLead start (lines ++ line ∷ []) new
leads_more start mid new [] line h one = (new, subst (λ (t : State). Leads line.command t line.steps new line.reply) h one, refl)
leads_more start mid new (first ∷ lines) line h one = (h.0, h.1, leads_more h.0 mid new lines line h.2 one)

pub turns_more : (place : ℕ) (lines : List Line) (line : Line) → turns_of place (lines ++ line ∷ []) ≡ turns_of place lines ++ turns_at place line.steps
turns_more place [] line = append-nil (turns_at place line.steps)
turns_more place (first ∷ lines) line =
    ap (λ (ts : List Turn). turns_at place first.steps ++ ts) (turns_more place lines line) ∙ sym (append_assoc (turns_at place first.steps) (turns_of place lines) (turns_at place line.steps))

module _ {S E : Type 0} (shelf_seen : S → ShelfView E) (seen : E → FileView) where
  history_more : (old now : OpenedOver S E) (turns more : List Turn) → IsHistory shelf_seen seen old turns → IsSlotSession shelf_seen seen (Some (Some old)) (Some (Some now)) more → IsHistory shelf_seen seen now (turns ++ more)
  history_more old now turns more h k =
      record { first = h.first; none = h.none; way = h.way; session = sessions_join (way_at shelf_seen seen h.first) (way_at shelf_seen seen old) (way_at shelf_seen seen now) turns more h.session k }

  no_more : (turns more : List Turn) → turns ≡ [] → more ≡ [] → turns ++ more ≡ []
  no_more turns more h k = ap (λ (ts : List Turn). ts ++ more) h ∙ k

  slot_more : (old now : Option (Option (OpenedOver S E))) (turns more : List Turn) → IsSlotHistory shelf_seen seen old turns → IsSlotSession shelf_seen seen old now more → IsSlotHistory shelf_seen seen now (turns ++ more)
  slot_more (Some (Some old)) (Some (Some now)) turns more h k = history_more old now turns more h k
  slot_more (Some (Some old)) (Some None) turns more h k = absurd k
  slot_more (Some (Some old)) None turns more h k = absurd k
  slot_more (Some None) (Some (Some now)) turns more h k = absurd k
  slot_more (Some None) (Some None) turns more h k = no_more turns more h k
  slot_more (Some None) None turns more h k = absurd k
  slot_more None (Some now) turns more h k = absurd k
  slot_more None None turns more h k = no_more turns more h k

  each_more : (old new : List (Option (OpenedOver S E))) (lines : List Line) (line : Line) → ((place : ℕ) → IsSlotHistory shelf_seen seen (slice_get old place) (turns_of place lines)) → AreSessions shelf_seen seen old new line.steps
      → (place : ℕ) → IsSlotHistory shelf_seen seen (slice_get new place) (turns_of place (lines ++ line ∷ []))
  each_more old new lines line h k place =
      subst (λ (ts : List Turn). IsSlotHistory shelf_seen seen (slice_get new place) ts) (sym (turns_more place lines line))
      (slot_more (slice_get old place) (slice_get new place) (turns_of place lines) (turns_at place line.steps) (h place) (k place))

  -- the turns before a volume was given
  no_turns : (slot : Option (Option (OpenedOver S E))) (turns : List Turn) → slot ≡ None → IsSlotHistory shelf_seen seen slot turns → turns ≡ []
  no_turns slot turns e h = subst (λ s. IsSlotHistory shelf_seen seen s turns) e h

  -- one slot more, whose volume saw nothing
  each_opened : (old : List (Option (OpenedOver S E))) (slot : Option (OpenedOver S E)) (lines : List Line) → IsSlotHistory shelf_seen seen (Some slot) [] → ((place : ℕ) → IsSlotHistory shelf_seen seen (slice_get old place) (turns_of place lines))
      → (place : ℕ) → IsSlotHistory shelf_seen seen (slice_get (old ++ slot ∷ []) place) (turns_of place lines)
  each_opened old slot lines new h place = elim (tells (length old) place) [
    | inl is ↦
        let empty : turns_of (length old) lines ≡ [] = no_turns (slice_get old (length old)) (turns_of (length old) lines) (get_none old) (h (length old)) in
        subst (λ (q : ℕ). IsSlotHistory shelf_seen seen (slice_get (old ++ slot ∷ []) q) (turns_of q lines)) is.1
        (subst (λ s. IsSlotHistory shelf_seen seen s (turns_of (length old) lines)) (sym (get_last old slot))
        (subst (λ (ts : List Turn). IsSlotHistory shelf_seen seen (Some slot) ts) (sym empty) new))
    | inr apart ↦ subst (λ s. IsSlotHistory shelf_seen seen s (turns_of place lines)) (sym (get_before old slot place apart.1)) (h place)
  ]

  played_more : (start : State) (lines : List Line) (command : Command) (reply : Reply) (old new : StoreOver S E) → IsScript shelf_seen seen start lines old → (p : Played shelf_seen seen (plan_of old.tables command) old new (Ok reply))
      → Leads command old.tables p.steps new.tables reply → GoesOn shelf_seen seen start lines command reply new
  played_more start lines command reply old new h p lead =
      let line = line_of command p.steps reply in
      record {
        steps = p.steps;
        script = record { leads = leads_more start old.tables new.tables lines line h.leads lead; each = each_more old.volumes new.volumes lines line h.each p.turns_are };
      }

  same_more : (start : State) (lines : List Line) (command : Command) (reply : Reply) (old : StoreOver S E) → IsScript shelf_seen seen start lines old → Leads command old.tables [] old.tables reply
      → GoesOn shelf_seen seen start lines command reply old
  same_more start lines command reply old h lead =
      let line = line_of command [] reply in
      record {
        steps = [];
        script = record {
          leads = leads_more start old.tables old.tables lines line h.leads lead;
          each = λ place. subst (λ (ts : List Turn). IsSlotHistory shelf_seen seen (slice_get old.volumes place) ts) (sym (turns_more place lines line ∙ append-nil (turns_of place lines))) (h.each place);
        };
      }

  -- a volume
  refused_more : (start : State) (lines : List Line) (mode : Mode) (reply : Reply) (old new : StoreOver S E) (before after : FarmView S) → IsScript shelf_seen seen start lines old
      → IsRefusedVolume shelf_seen seen mode old new before after (Ok reply) → GoesOn shelf_seen seen start lines (commands.Volume mode) reply new
  refused_more start lines mode reply old new before after h r =
      subst (λ (s : StoreOver S E). GoesOn shelf_seen seen start lines (commands.Volume mode) reply s) (sym r.store)
      (same_more start lines (commands.Volume mode) reply old h (inl (record { cause = r.cause; refused = r.refused; tables = refl; none = refl; told = cc r.reply })))

  lost_more : (start : State) (lines : List Line) (mode : Mode) (reply : Reply) (old new : StoreOver S E) (before after : FarmView S) → IsScript shelf_seen seen start lines old
      → IsLostVolume shelf_seen seen mode old new before after (Ok reply) → GoesOn shelf_seen seen start lines (commands.Volume mode) reply new
  lost_more start lines mode reply old new before after h l =
      let line = line_of (commands.Volume mode) [] reply in
      record {
        steps = [];
        script = record {
          leads = leads_more start old.tables new.tables lines line h.leads (inr (inl (record { disks = l.spent.disks; given = l.spent.given; tables = l.spent.tables; none = refl; cause = l.cause; told = l.reply })));
          each = λ place.
              subst (λ vs. IsSlotHistory shelf_seen seen (slice_get vs place) (turns_of place (lines ++ line ∷ []))) (sym l.volumes)
              (subst (λ (ts : List Turn). IsSlotHistory shelf_seen seen (slice_get (old.volumes ++ None ∷ []) place) ts) (sym (turns_more place lines line ∙ append-nil (turns_of place lines)))
              (each_opened old.volumes None lines refl h.each place));
        };
      }

  made_more : (start : State) (lines : List Line) (mode : Mode) (reply : Reply) (old new : StoreOver S E) (before after : FarmView S) → IsScript shelf_seen seen start lines old
      → IsMadeVolume shelf_seen seen mode old new before after (Ok reply) → GoesOn shelf_seen seen start lines (commands.Volume mode) reply new
  made_more start lines mode reply old new before after h m =
      let line = line_of (commands.Volume mode) m.breaks.steps reply in
      let follows = subst (λ (t : State). Follows (breaks_in t (length old.tables.volumes) (bad_disks 1 t.disks) (replies.Volume (next_number old.tables))) m.breaks.steps new.tables (Ok reply)) m.made.tables m.breaks.follows in
      let history : IsHistory shelf_seen seen m.opened [] = record { first = m.opened; none = m.made.made.entries; way = m.way; session = session_none (way_at shelf_seen seen m.opened) } in
      record {
        steps = m.breaks.steps;
        script = record {
          leads = leads_more start old.tables new.tables lines line h.leads (inr (inr (record { disks = m.made.disks; given = m.made.given; breaks = follows })));
          each = each_more (old.volumes ++ Some m.opened ∷ []) new.volumes lines line (each_opened old.volumes (Some m.opened) lines history h.each) m.breaks.turns_are;
        };
      }

  volume_more : (start : State) (lines : List Line) (mode : Mode) (reply : Reply) (old new : StoreOver S E) (before after : FarmView S) → IsScript shelf_seen seen start lines old
      → MakesOne shelf_seen seen mode old new before after (Ok reply) → GoesOn shelf_seen seen start lines (commands.Volume mode) reply new
  volume_more start lines mode reply old new before after h m = elim m [
    | inl r ↦ refused_more start lines mode reply old new before after h r
    | inr (inl l) ↦ lost_more start lines mode reply old new before after h l
    | inr (inr (inl made)) ↦ made_more start lines mode reply old new before after h made
    | inr (inr (inr none)) ↦ absurd (cc none.reply)
  ]

  pub one_command_more : OneCommandMore shelf_seen seen
  one_command_more start lines (commands.Disks count) reply old new before after h a = played_more start lines (commands.Disks count) reply old new h a.1 a.1.follows
  one_command_more start lines (commands.Volume mode) reply old new before after h a = volume_more start lines mode reply old new before after h a
  one_command_more start lines (commands.Put name object) reply old new before after h a = played_more start lines (commands.Put name object) reply old new h a.1 a.1.follows
  one_command_more start lines (commands.Get name) reply old new before after h a = played_more start lines (commands.Get name) reply old new h a.1 a.1.follows
  one_command_more start lines (commands.Fetch vid bid size) reply old new before after h a = played_more start lines (commands.Fetch vid bid size) reply old new h a.1 a.1.follows
  one_command_more start lines (commands.Tick by) reply old new before after h a = played_more start lines (commands.Tick by) reply old new h a.1 a.1.follows
  one_command_more start lines (commands.Break disk) reply old new before after h a = played_more start lines (commands.Break disk) reply old new h a.1 a.1.follows
  one_command_more start lines (commands.Plan vid disk fate count) reply old new before after h a = played_more start lines (commands.Plan vid disk fate count) reply old new h a.1 a.1.follows
  one_command_more start lines (commands.Flush vid) reply old new before after h a = played_more start lines (commands.Flush vid) reply old new h a.1 a.1.follows
  one_command_more start lines (commands.Restart disk) reply old new before after h a = played_more start lines (commands.Restart disk) reply old new h a.1 a.1.follows
  one_command_more start lines commands.RestartManager reply old new before after h a = played_more start lines commands.RestartManager reply old new h a.1 a.1.follows
