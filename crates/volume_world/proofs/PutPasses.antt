-- What a world passes through when it is looked at, and when a put begins and ends.
use Rattle.std.proofs.Common.{◌≡◌, ◌∙◌, sym, ap, refl, subst, ℕ, ◌≤◌, Bool, false, List, [], length, get_or, Option, Some, None, IsSome, Ok, arith}
use Rattle.std.specs.Prelude.{IfSome}
use Rattle.disk_base.specs.Disk.{FileView}
use Rattle.disk_base.specs.Shelves.{ShelfView}
use Rattle.code_mode.specs.declared.mode.Mode.{Mode}
use Rattle.code_mode.specs.Mode.{total_count}
use Rattle.code_mode.specs.declared.payload.Payload.{Payload}
use Rattle.code_mode.specs.VolumeShape.{VolumeShape, last_time, volume_shape}
use Rattle.volume_entry.specs.Reply.{Reply as ToldReply}
use Rattle.volume_entry.specs.Entry.{Looks}
use Rattle.volume_entry.specs.Entry as entries
use Rattle.volume_entry.specs.declared.view.View.{View}
use Rattle.volume_world.specs.Asking.{FitsEvent}
use Rattle.volume_world.specs.Beginning.{BeginsBy}
use Rattle.volume_world.specs.Course.{is_fault}
use Rattle.volume_world.specs.FixedRows.{FitsRows}
use Rattle.volume_world.specs.History.{IsNoted}
use Rattle.volume_world.specs.Move.{Ends}
use Rattle.volume_world.specs.Origins.{origin_of}
use Rattle.volume_world.specs.PutBook.{KeptPuts, Books, EndsWith, IsPut, put_at, status_of, puts_ended}
use Rattle.volume_world.specs.Replying.{AreHomes, RepliesBegin, RepliesEnd, ShowsView, ShowsMoves}
use Rattle.volume_world.specs.Run.{World}
use Rattle.volume_world.specs.State.{Puts, State, fresh}
use Rattle.volume_world.specs.Stepping.{IsShort, IsSound, IsAt, Done, NotDone}
use Rattle.volume_world.specs.Told.{Tells}
use Rattle.volume_world.specs.Trace.{trace_of, reply_kept}
use Rattle.volume_world.specs.Way.{Origin}
use Rattle.volume_world.specs.World.{WorldOver, Stands}
use Rattle.volume_world.specs.WorldSteps.{LeadsOn}
use Rattle.volume_world.specs.declared.event.Event.TheVariants as events
use Rattle.volume_world.specs.declared.puts.PutState.{PutState}
use Rattle.volume_world.specs.declared.reply.Reply.{Reply}
use Rattle.volume_world.specs.declared.reply.Reply.TheVariants as replies
use Rattle.volume_world.specs.declared.trace.TraceReply.TheVariants as kept_reply
use Rattle.volume_world.proofs.Passing.{OnlyBeside, same_beside, sound_beside, passes_nothing, passes_beside, done_alone, not_done_alone}
use Rattle.volume_world.proofs.FixedRows.{rows_fit}
use Rattle.volume_world.proofs.StepAnswers.{open_by_end}
use Rattle.volume_world.proofs.WorldBegins.{begin_answered, end_done}
use Rattle.volume_world.proofs.WorldFrames.{reserved}
use Rattle.volume_world.proofs.WorldLooks.{look_done, look_shows}

-- ---- the end of a put tells no fault

abbrev end_of : Option PutState → ℕ
end_of None = 0
end_of (Some put) = put.end

abbrev accepted_of : Option PutState → ℕ → Bool
accepted_of None index = false
accepted_of (Some put) index = get_or put.accepted index false

-- the puts of a book, as if they had no payloads
abbrev puts_of : List (ℕ × PutState) → Puts
puts_of book = record {
  status = λ bid. status_of (put_at book bid);
  payload = λ bid. [];
  end = λ bid. end_of (put_at book bid);
  accepted = λ bid. accepted_of (put_at book bid);
}

books_of : (total : ℕ) (book : List (ℕ × PutState)) → Books total book (puts_of book)
books_of total book = record { status = λ bid. refl; each = λ bid. go (put_at book bid) } where
  go : (put : Option PutState) → IfSome put (λ p. IsPut total p (end_of put) (accepted_of put))
  go None = tt
  go (Some put) = record { ends = refl; accepts = λ index below. refl }

-- no end of a put is told as a fault
fault_not_told : (shape : VolumeShape) (bid : ℕ) (s : State) (told : ToldReply) (t : State) → Tells 0 s kept_reply.Fault told → Ends shape bid s told t → ⊥
fault_not_told shape bid s ToldReply.Fault t tells ends = ends
fault_not_told shape bid s told t tells ends = tells

-- what the end of a put makes of every state
abbrev pub EndsPut : Mode → ℕ → ℕ → List (ℕ × PutState) → List (ℕ × PutState) → Reply → Type 0
EndsPut mode bid now before after reply =
    (disks : ℕ) (s : State) → s.time ≡ now → Books (total_count mode) before s.puts
    → EndsWith (volume_shape mode disks) bid s reply × Books (total_count mode) after (puts_ended bid reply s.puts)

end_faultless : (mode : Mode) (bid now : ℕ) (before after : List (ℕ × PutState)) (reply : Reply) → RepliesEnd reply → EndsPut mode bid now before after reply
    → is_fault (reply_kept reply) ≡ false
end_faultless mode bid now before after replies.Fault may ends =
    let s : State = record (fresh [] (λ place. false)) { puts = puts_of before; time = now } in
    let h = (ends 0 s refl (books_of (total_count mode) before)).0 in
    absurd (fault_not_told (volume_shape mode 0) bid s h.told (record s { puts = puts_ended bid replies.Fault s.puts }) (h.tells 0) h.ends)
end_faultless mode bid now before after (replies.Heard answer) may ends = absurd may
end_faultless mode bid now before after reply may ends = refl

-- .. and none shows units
pub end_fits : (reply : Reply) → RepliesEnd reply → FitsRows reply
end_fits (replies.Begun end units) may = absurd may
end_fits (replies.Granted lock moves) may = absurd may
end_fits (replies.Seen view) may = absurd may
end_fits reply may = tt

end_shows : (origin : Origin) (reply : Reply) → RepliesEnd reply → ShowsMoves origin reply
end_shows origin (replies.Granted lock moves) may = absurd may
end_shows origin (replies.Seen view) may = absurd may
end_shows origin reply may = tt

-- ---- replies to the begin of a put

record BeginReply (origin : Origin) (reply : Reply) : Type 0 where
  replies : RepliesBegin origin reply
  shows : ShowsMoves origin reply
  faultless : is_fault (reply_kept reply) ≡ false

begin_replies : (origin : Origin) (bid : ℕ) (view : View) (before after : KeptPuts) (reply : Reply) → ShowsView origin view → BeginsBy bid view before after (Ok reply)
    → BeginReply origin reply
begin_replies origin bid view before after (replies.Locked task) shows begins = record { replies = tt; shows = tt; faultless = refl }
begin_replies origin bid view before after replies.BeginTwice shows begins = record { replies = tt; shows = tt; faultless = refl }
begin_replies origin bid view before after (replies.Begun end units) shows begins =
    record { replies = subst (AreHomes origin) (sym begins.1) shows.homes; shows = tt; faultless = refl }
begin_replies origin bid view before after reply shows begins = absurd begins

pub begin_fits : (origin : Origin) (bid : ℕ) (payload : Payload) (view : View) (before after : KeptPuts) (reply : Reply) → ShowsView origin view
    → BeginsBy bid view before after (Ok reply) → FitsRows reply
begin_fits origin bid payload view before after reply shows begins =
    let is = begin_replies origin bid view before after reply shows begins in rows_fit origin (events.Begin bid payload) reply is.replies is.shows

pub look_fits : (origin : Origin) (view : View) → ShowsView origin view → FitsRows (replies.Seen view)
look_fits origin view shows = rows_fit origin events.Look (replies.Seen view) shows.homes shows.moves

-- ---- what a world passes through

module _ {H F : Type 0} (shelf_seen : H → ShelfView F) (seen : F → FileView) (old new : WorldOver H F) (sound : IsSound shelf_seen seen old) where
  -- a look
  pub look_passes : (view : View) → Looks seen old.time old.entry (Ok view) → ShowsView (origin_of shelf_seen seen old) view
      → IsNoted (trace_of events.Look (replies.Seen view)) old.history new.history → new ≡ record old { history = new.history }
      → Done shelf_seen seen 0 old new events.Look (replies.Seen view)
  look_passes view looks shows noted only =
      let beside : OnlyBeside shelf_seen seen old new = subst (OnlyBeside shelf_seen seen old) (sym only) refl in
      done_alone shelf_seen seen events.Look (replies.Seen view) old new shows.homes shows.moves
      (passes_beside shelf_seen seen events.Look (replies.Seen view) old new sound beside (ap (λ (x : WorldOver H F). length x.planned) only)
      (subst (λ (x : WorldOver H F). x.time ≤ last_time) (sym only) sound.time) noted tt refl
      (λ w stands. let told = looks.2 w.state.manager stands.manager in
      look_done shelf_seen seen old w stands new view told.0 (look_shows shelf_seen seen old w stands view sound.one told.1) only))

  -- room is made for a put, and no more
  room_made : new ≡ record old { puts = new.puts } → new.puts.puts ≡ old.puts.puts → NotDone shelf_seen seen 0 old new
  room_made only same =
      let beside : OnlyBeside shelf_seen seen old new = subst (OnlyBeside shelf_seen seen old) (sym only) refl in
      let same_entries : new.history.entries ≡ old.history.entries = ap (λ (x : WorldOver H F). x.history.entries) only in
      let spare : new.history.spare ≡ old.history.spare = ap (λ (x : WorldOver H F). x.history.spare) only in
      not_done_alone shelf_seen seen old new (passes_nothing shelf_seen seen old new (same_beside shelf_seen seen old new beside)
      (sound_beside shelf_seen seen old new beside (ap (λ (x : WorldOver H F). length x.planned) only)
      (subst (λ (x : WorldOver H F). x.time ≤ last_time) (sym only) sound.time) (omega (arith, ap length same_entries)) sound)
      same_entries (omega (arith, spare)) at) where
        at : (w : World) → IsAt shelf_seen seen old w → IsAt shelf_seen seen new w
        at w is = record {
          stands = reserved shelf_seen seen old new w (subst (λ (x : WorldOver H F). x ≡ record old { entry = x.entry; puts = x.puts; late = x.late; history = x.history }) (sym only) refl)
              (λ m stands. subst (λ (x : WorldOver H F). entries.Stands seen x.entry m) (sym only) stands) (ap (λ (x : WorldOver H F). x.entry.broken) only) same
              (ap (λ (x : WorldOver H F). x.late.items) only) is.stands;
          short = subst (λ (x : WorldOver H F). IsShort (length x.history.entries) (seen x.entry.book.log.file)) (sym only) is.short;
        }

  pub begin_not_done : (puts : KeptPuts) → puts.puts ≡ old.puts.puts → new ≡ record old { puts = puts } → NotDone shelf_seen seen 0 old new
  begin_not_done puts same only =
      room_made (subst (λ (x : WorldOver H F). x ≡ record old { puts = x.puts }) (sym only) refl) (ap (λ (x : WorldOver H F). x.puts.puts) only ∙ same)

  -- a put begins, once there is room for it
  begin_so : (bid : ℕ) (payload : Payload) (view : View) (reply : Reply) (room : KeptPuts) → FitsEvent (origin_of shelf_seen seen old) (events.Begin bid payload)
      → Looks seen old.time old.entry (Ok view) → ShowsView (origin_of shelf_seen seen old) view → room.puts ≡ old.puts.puts
      → BeginsBy bid view room new.puts (Ok reply) → IsNoted (trace_of (events.Begin bid payload) reply) old.history new.history
      → new ≡ record old { puts = new.puts; history = new.history } → Done shelf_seen seen 0 old new (events.Begin bid payload) reply
  begin_so bid payload view reply room fits looks shows same begins noted only =
      let beside : OnlyBeside shelf_seen seen old new = subst (OnlyBeside shelf_seen seen old) (sym only) refl in
      let is = begin_replies (origin_of shelf_seen seen old) bid view room new.puts reply shows begins in
      done_alone shelf_seen seen (events.Begin bid payload) reply old new is.replies is.shows
      (passes_beside shelf_seen seen (events.Begin bid payload) reply old new sound beside (ap (λ (x : WorldOver H F). length x.planned) only)
      (subst (λ (x : WorldOver H F). x.time ≤ last_time) (sym only) sound.time) noted tt is.faultless leads) where
        roomy : WorldOver H F
        roomy = record old { puts = room }

        leads : (w : World) → Stands shelf_seen seen old w → LeadsOn shelf_seen seen old w (trace_of (events.Begin bid payload) reply) new
        leads w stands =
            let told = looks.2 w.state.manager stands.manager in
            let there : Stands shelf_seen seen roomy w = reserved shelf_seen seen old roomy w refl (λ m is. is) refl same refl stands in
            let led = begin_answered shelf_seen seen roomy new w there bid payload view told.0 fits.0 (look_shows shelf_seen seen old w stands view sound.one told.1)
            reply fits.3 begins only in
            record { then_ = led.then_; may_be = led.may_be; stands = led.stands }

  pub begin_passes : (bid : ℕ) (payload : Payload) (view : View) (reply : Reply) (room puts : KeptPuts) → FitsEvent (origin_of shelf_seen seen old) (events.Begin bid payload)
      → Looks seen old.time old.entry (Ok view) → ShowsView (origin_of shelf_seen seen old) view → room.puts ≡ old.puts.puts
      → BeginsBy bid view room puts (Ok reply) → IsNoted (trace_of (events.Begin bid payload) reply) old.history new.history
      → new ≡ record old { puts = puts; history = new.history } → Done shelf_seen seen 0 old new (events.Begin bid payload) reply
  begin_passes bid payload view reply room puts fits looks shows same begins noted only =
      begin_so bid payload view reply room fits looks shows same
      (subst (λ after. BeginsBy bid view room after (Ok reply)) (ap (λ (x : WorldOver H F). x.puts) (sym only)) begins) noted
      (subst (λ (x : WorldOver H F). x ≡ record old { puts = x.puts; history = x.history }) (sym only) refl)

  -- a put ends
  end_so : (bid : ℕ) (reply : Reply) → IsSome old.entry.book.log.end → RepliesEnd reply → EndsPut old.shape.mode bid old.time old.puts.puts new.puts.puts reply
      → IsNoted (trace_of (events.End bid) reply) old.history new.history → new ≡ record old { puts = new.puts; history = new.history }
      → Done shelf_seen seen 0 old new (events.End bid) reply
  end_so bid reply open_ may ends noted only =
      let beside : OnlyBeside shelf_seen seen old new = subst (OnlyBeside shelf_seen seen old) (sym only) refl in
      done_alone shelf_seen seen (events.End bid) reply old new may (end_shows (origin_of shelf_seen seen old) reply may)
      (passes_beside shelf_seen seen (events.End bid) reply old new sound beside (ap (λ (x : WorldOver H F). length x.planned) only)
      (subst (λ (x : WorldOver H F). x.time ≤ last_time) (sym only) sound.time) noted tt
      (end_faultless old.shape.mode bid old.time old.puts.puts new.puts.puts reply may ends)
      (λ w stands. end_done shelf_seen seen old new w stands bid reply (open_by_end seen old.entry w.state.manager stands.manager open_) ends only))

  pub end_passes : (bid : ℕ) (reply : Reply) (puts : KeptPuts) → IsSome old.entry.book.log.end → RepliesEnd reply
      → EndsPut old.shape.mode bid old.time old.puts.puts puts.puts reply → IsNoted (trace_of (events.End bid) reply) old.history new.history
      → new ≡ record old { puts = puts; history = new.history } → Done shelf_seen seen 0 old new (events.End bid) reply
  end_passes bid reply puts open_ may ends noted only =
      end_so bid reply open_ may
      (subst (λ (after : KeptPuts). EndsPut old.shape.mode bid old.time old.puts.puts after.puts reply) (ap (λ (x : WorldOver H F). x.puts) (sym only)) ends) noted
      (subst (λ (x : WorldOver H F). x ≡ record old { puts = x.puts; history = x.history }) (sym only) refl)
