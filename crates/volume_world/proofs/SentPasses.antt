-- What a world passes through when a request is sent, handled and heard.
use Rattle.std.proofs.Common.{◌≡◌, ◌∙◌, sym, ap, refl, subst, ℕ, ◌+◌, ◌*◌, ◌-◌, ◌^◌, ◌≤◌, ◌&&◌, min, Bool, true, false, cond, List, [], ◌∷◌, ◌++◌, map, length, drop, Option, Some, None, Ok, inl, inr, append_assoc, length-append, arith}
use Rattle.std.specs.Prelude.{IfSome, is_some}
use Rattle.unit_id.specs.Lists.{IsIn}
use Rattle.unit_id.specs.Messages.{place_at, request_of, answer_of}
use Rattle.unit_id.specs.Request.{Request, Answer, place_of}
use Rattle.unit_id.specs.declared.request.Request as sent
use Rattle.unit_id.specs.declared.request.Request.TheVariants as requests
use Rattle.unit_id.specs.declared.answer.Answer as answered
use Rattle.unit_id.specs.declared.answer.Answer.TheVariants as answers
use Rattle.disk_base.specs.Disk.{FileView}
use Rattle.disk_base.specs.Faults.{Rose}
use Rattle.disk_base.specs.Shelves.{ShelfView}
use Rattle.code_mode.specs.declared.mode.Mode.{Mode}
use Rattle.code_mode.specs.VolumeShape.{last_time}
use Rattle.blob_node.specs.HeldUnit.{disk_of}
use Rattle.blob_node.specs.Link.{IsDiskOf, fates_of, with_fates, next_of}
use Rattle.blob_node.specs.UnitAnswer.{Effect}
use Rattle.blob_node.specs.declared.fate.Fate.{Fate}
use Rattle.volume_entry.specs.BookStart.{last_start}
use Rattle.volume_entry.specs.Entry.{is_broken}
use Rattle.volume_entry.specs.Manager.{Manager}
use Rattle.volume_entry.specs.Reply.{Reply as ToldReply}
use Rattle.volume_entry.specs.TableParts.{shape_of}
use Rattle.volume_world.specs.Asking.{CarriesRight}
use Rattle.volume_world.specs.Contents.{begun_shard}
use Rattle.volume_world.specs.Course.{Part, traces_of, is_fault, fault_count, IsDone, PartsLead}
use Rattle.volume_world.specs.History.{IsNoted}
use Rattle.volume_world.specs.Mailbag.{late_told}
use Rattle.volume_world.specs.Move.{Move, MovesAll, IsSendable, puts_hear}
use Rattle.volume_world.specs.Origins.{are_told, are_quiet, faults_of, origin_of}
use Rattle.volume_world.specs.Run.{World, Late, next_fate, without_next, moves_of_send, reply_of_send, late_of_send}
use Rattle.volume_world.specs.Serving.{settles_of, once_handled, once_heard, IsAsked, AnswersIn, CountsFault, Serves}
use Rattle.volume_world.specs.State.{Puts, State}
use Rattle.volume_world.specs.Stations as all
use Rattle.volume_world.specs.Stepping.{IsShort, FitsLate, AreStill, IsSound, IsAt, Passes, CarryRight}
use Rattle.volume_world.specs.Trace.{trace_of, reply_kept}
use Rattle.volume_world.specs.World.{WorldOver, Stands, CarriesBegun, IsPosted}
use Rattle.volume_world.specs.declared.event.Event.TheVariants as events
use Rattle.volume_world.specs.declared.late.LateItem.{LateItem}
use Rattle.volume_world.specs.declared.late.LateItem.TheVariants as items
use Rattle.volume_world.specs.declared.reply.Reply.TheVariants as replies
use Rattle.volume_world.proofs.HeardWorlds.{only_accepted, carries_still}
use Rattle.volume_world.proofs.Mailbags.{next_is}
use Rattle.volume_world.proofs.Passing.{SameVolume, in_back, longer, noted_length, still_short, end_in_time}
use Rattle.volume_world.proofs.SentWorlds.{sent_heard, sent_stands, heard_moves}
use Rattle.volume_world.proofs.ServedPasses.{settles_faultless, asked_in, answered_stands, served_same, served_sound, served_short, served_longer}
use Rattle.volume_world.proofs.Stretches.{leads_on, traces_on, faults_more}

-- a put or a copy that may be sent carries a begun blob's shard
carries_sent : (total : ℕ) (mode : Mode) (puts : Puts) (m : Manager) (request : sent.Request) → IsSendable total puts.status m (request_of request)
    → CarriesRight true mode puts (events.Send request) → CarriesBegun mode puts request
carries_sent total mode puts m (requests.Put unit disk bid blob_size bytes) sendable right = record {
  begun = sendable.0;
  right = subst (λ b. cond b (record { blob_size = blob_size; bytes = bytes } ≡ begun_shard mode puts (place_at unit disk) bid) (true ≡ true)) sendable.0 right;
}
carries_sent total mode puts m (requests.Copy unit disk bid blob_size bytes) sendable right = record {
  begun = sendable.0;
  right = subst (λ b. cond b (record { blob_size = blob_size; bytes = bytes } ≡ begun_shard mode puts (place_at unit disk) bid) (true ≡ true)) sendable.0 right;
}
carries_sent total mode puts m request sendable right = tt

-- a fate by which a request is handled at once, and its answer heard
pub record IsHeardAtOnce (fate : Fate) : Type 0 where
  pub moves : (time : ℕ) (r : Request) (a : Answer) (e : Effect) → moves_of_send fate time r a e ≡ Move.Issue r ∷ Move.Handle r a e ∷ Move.Hear r a ∷ []
  pub replies : (a : Answer) → reply_of_send fate a ≡ ToldReply.Heard a

-- ---- faults

faults_heard : (answer : answered.Answer) (before now file : ℕ) → CountsFault before now (Ok answer)
    → min (before + file + (cond (is_fault (reply_kept (replies.Heard answer))) 1 0 + 0)) (2 ^ 64 - 1) ≤ now + file
faults_heard answers.Fault before now file counts = omega (arith, counts)
faults_heard answers.Done before now file counts = omega (arith, counts)
faults_heard answers.Already before now file counts = omega (arith, counts)
faults_heard (answers.Live blob_size bytes) before now file counts = omega (arith, counts)
faults_heard answers.Marked before now file counts = omega (arith, counts)
faults_heard answers.Gone before now file counts = omega (arith, counts)
faults_heard answers.Absent before now file counts = omega (arith, counts)
faults_heard (answers.Listing lock live marked) before now file counts = omega (arith, counts)
faults_heard (answers.Stale have) before now file counts = omega (arith, counts)
faults_heard answers.NoUnit before now file counts = omega (arith, counts)
faults_heard (answers.Fenced lock) before now file counts = omega (arith, counts)
faults_heard answers.Deleted before now file counts = omega (arith, counts)
faults_heard answers.NotMarked before now file counts = omega (arith, counts)
faults_heard answers.Broken before now file counts = omega (arith, counts)
faults_heard (answers.Full end) before now file counts = omega (arith, counts)
faults_heard (answers.Damaged kept computed) before now file counts = omega (arith, counts)
faults_heard (answers.Spoiled place) before now file counts = omega (arith, counts)

module _ {H F : Type 0} (shelf_seen : H → ShelfView F) (seen : F → FileView) where
  -- ---- what follows the stations

  -- memory changes beside the stations, and the manager's log doesn't
  pub record OnlyMemory (mid new : WorldOver H F) : Type 0 where
    pub only : new ≡ record mid { entry = new.entry; puts = new.puts; planned = new.planned; late = new.late; time = new.time; history = new.history }
    pub book : new.entry.book ≡ mid.entry.book
    pub broken : new.entry.broken ≡ mid.entry.broken
    pub planned : length new.planned ≡ length mid.planned
    pub time : new.time ≤ last_time
    pub history : length mid.history.entries ≤ length new.history.entries

  pub same_memory : (mid new : WorldOver H F) → OnlyMemory mid new → SameVolume shelf_seen seen mid new
  same_memory mid new memory =
      subst (λ (x : WorldOver H F). SameVolume shelf_seen seen mid x) (sym memory.only) (record {
        vid = refl;
        shape = refl;
        first = refl;
        told = ap (λ book. are_told shelf_seen seen mid.stations && is_some (seen book.log.file).content) memory.book;
        quiet = ap (λ book. are_quiet shelf_seen seen mid.stations && (seen book.log.file).is_quiet) memory.book;
        count = let same = ap (λ book. (seen book.log.file).faults) memory.book in omega (arith, same);
      })

  pub sound_memory : (mid new : WorldOver H F) → OnlyMemory mid new → ((item : LateItem) → IsIn item new.late.items → FitsLate shelf_seen seen new item) → IsSound shelf_seen seen mid
      → IsSound shelf_seen seen new
  sound_memory mid new memory late sound = record {
    one = record {
      vid = ap (λ book. book.vid) memory.book ∙ sound.one.vid ∙ sym (same_memory mid new memory).vid;
      shape = ap (λ book. book.shape) memory.book ∙ sound.one.shape ∙ sym (same_memory mid new memory).shape;
      planned = memory.planned ∙ sound.one.planned ∙ sym (ap (λ shape. shape.disks) (same_memory mid new memory).shape);
    };
    disks = subst (λ (x : WorldOver H F). x.shape.disks ≤ 64) (sym memory.only) sound.disks;
    stations = subst (λ (x : WorldOver H F). all.AreStations x.vid x.stations) (sym memory.only) sound.stations;
    count = ap (λ (x : WorldOver H F). length x.stations) memory.only ∙ sound.count ∙ sym (ap (λ shape. shape.disks) (same_memory mid new memory).shape);
    still = subst (λ (x : WorldOver H F). AreStill shelf_seen seen x.stations) (sym memory.only) sound.still;
    flags = ap length memory.broken ∙ sound.flags;
    broken = λ disk. ap (λ (x : WorldOver H F). all.is_broken_on x.stations disk) memory.only ∙ sound.broken disk ∙ ap (λ flags. is_broken flags disk) (sym memory.broken);
    time = memory.time;
    end = end_in_time (length mid.history.entries) (length new.history.entries) new.entry.book.log.end memory.history
        (subst (λ book. IfSome book.log.end (λ place. place ≤ last_start + 128 * length mid.history.entries)) (sym memory.book) sound.end);
    late = late;
  }

  pub short_memory : (mid new : WorldOver H F) → OnlyMemory mid new → IsShort (length mid.history.entries) (seen mid.entry.book.log.file)
      → IsShort (length new.history.entries) (seen new.entry.book.log.file)
  short_memory mid new memory short =
      subst (λ book. IsShort (length new.history.entries) (seen book.log.file)) (sym memory.book)
      (still_short (length mid.history.entries) (length new.history.entries) (seen mid.entry.book.log.file) memory.history short)

  -- ---- a request that is handled at once, and heard

  module _ (request : sent.Request) (answer : answered.Answer) (fate : Fate) (added : List LateItem) (old mid heard new : WorldOver H F) (quick : IsHeardAtOnce fate)
      (serves : Serves shelf_seen seen request (Ok answer) old mid)
      (hears : (w : World) → Stands shelf_seen seen mid w → Stands shelf_seen seen heard (record w { state = once_heard request answer w.state }))
      (only : new ≡ record heard { planned = with_fates heard.planned (disk_of request) (drop 1 (fates_of heard.planned (disk_of request))); late = new.late; history = new.history })
      (shape : heard.shape ≡ old.shape) (late : new.late.items ≡ heard.late.items ++ added) (on_old : IsDiskOf old.planned (disk_of request))
      (on : IsDiskOf heard.planned (disk_of request)) (fate_is : fate ≡ next_of (fates_of old.planned (disk_of request)))
      (late_is : map late_told added ≡ late_of_send fate (request_of request) (answer_of answer)) (again : (item : LateItem) → IsIn item added → item ≡ items.Request request) where
    -- it carries the same where its answer was heard
    carries_heard : (w : World) → CarriesBegun old.shape.mode w.state.puts request
        → CarriesBegun heard.shape.mode (puts_hear (request_of request) (answer_of answer) w.state.puts) request
    carries_heard w carries =
        subst (λ shape. CarriesBegun shape.mode (puts_hear (request_of request) (answer_of answer) w.state.puts) request) (sym shape)
        (subst (λ (puts : Puts). CarriesBegun old.shape.mode puts request) (sym (only_accepted (request_of request) (answer_of answer) w.state.puts))
        (carries_still old.shape.mode w.state.puts (puts_hear (request_of request) (answer_of answer) w.state.puts).accepted request carries))

    -- the state in which the world stands then
    pub led_by_heard : (w : World) → Stands shelf_seen seen old w → w.state.manager.is_shut ≡ false → IsSendable (shape_of old.shape).total w.state.puts.status w.state.manager (request_of request)
        → CarriesBegun old.shape.mode w.state.puts request
        → (v : World) × PartsLead (origin_of shelf_seen seen old) w (settles_of (disk_of request) serves.told ++ Part.Asking (events.Send request) (replies.Heard answer) ∷ []) v
        × Stands shelf_seen seen new v
    led_by_heard w stands open_ sendable carries =
        let disk = disk_of request in
        let origin = origin_of shelf_seen seen old in
        let led = serves.serves w stands in
        let units = led.then_.state.units in
        let u : World = record w { state = record (w.state) { units = units } } in
        let issued = request_of request ∷ w.state.post.issued in
        let asked = asked_in w units issued in
        let is : IsAsked shelf_seen seen old.shape.mode request led.then_.state asked = record {
          units = refl;
          puts = ap (λ (x : World). x.state.puts) (sym led.same);
          broken = λ d. ap (λ (x : World). x.state.broken d) (sym led.same);
          issued = inl refl;
          carries = carries;
        } in
        let answers = led.serves.0 asked is in
        let handled = once_handled request answer answers.effect asked in
        let behind : World = record w { state = once_heard request answer handled } in
        let at_heard : Stands shelf_seen seen heard behind = hears (record w { state = handled }) (answered_stands shelf_seen seen request answer old mid serves w stands issued (λ r there. inr there) answers) in
        let v : World = record behind { planned = without_next w.planned disk; late = w.late ++ map late_told added } in
        let next : next_fate w.planned disk ≡ fate = sym (next_is old.planned w.planned disk on_old stands.planned) ∙ sym fate_is in
        let all_moves = heard_moves (shape_of old.shape) request answer answers.effect w units open_ sendable answers.handles in
        let moves : MovesAll (shape_of old.shape) u.state (moves_of_send (next_fate w.planned disk) w.state.time (request_of request) (answer_of answer) answers.effect) v.state =
        subst (λ ms. MovesAll (shape_of old.shape) u.state ms v.state)
        (sym (ap (λ f. moves_of_send f w.state.time (request_of request) (answer_of answer) answers.effect) next ∙ quick.moves w.state.time (request_of request) (answer_of answer) answers.effect))
        all_moves in
        let lates : v.late ≡ w.late ++ late_of_send (next_fate w.planned disk) (request_of request) (answer_of answer) =
        ap (λ ls. w.late ++ ls) (late_is ∙ ap (λ f. late_of_send f (request_of request) (answer_of answer)) (sym next)) in
        let done : IsDone origin u (events.Send request) (replies.Heard answer) v =
        sent_heard origin request answer answers.effect u v sendable moves refl lates
        (ap (λ f. reply_of_send f (answer_of answer)) next ∙ quick.replies (answer_of answer)) answers.right in (
          v,
          leads_on origin w u v (settles_of disk serves.told) (Part.Asking (events.Send request) (replies.Heard answer) ∷ [])
              (subst (λ (x : World). PartsLead origin w (settles_of disk serves.told) x) led.same led.leads) (v, done, refl),
          sent_stands shelf_seen seen heard new behind disk added only on late
              (λ item there. subst (IsPosted heard.shape.mode behind.state.puts behind.state.post) (sym (again item there)) (inl refl, carries_heard w carries)) at_heard,
        )

    -- The history goes by what is told of a start, and by the request with its answer.
    pub heard_passes : IsSound shelf_seen seen old → OnlyMemory mid new → heard.history ≡ mid.history
        → IsNoted (trace_of (events.Send request) (replies.Heard answer)) heard.history new.history
        → ((item : LateItem) → IsIn item new.late.items → FitsLate shelf_seen seen new item)
        → ((w : World) → Stands shelf_seen seen old w → w.state.manager.is_shut ≡ false)
        → ((w : World) → Stands shelf_seen seen old w → IsSendable (shape_of old.shape).total w.state.puts.status w.state.manager (request_of request))
        → Passes shelf_seen seen (settles_of (disk_of request) serves.told ++ Part.Asking (events.Send request) (replies.Heard answer) ∷ []) old new
    heard_passes sound memory unnoted noted fits open_ sendable =
        let settles = settles_of (disk_of request) serves.told in
        let part = Part.Asking (events.Send request) (replies.Heard answer) in
        let trace = trace_of (events.Send request) (replies.Heard answer) in
        let first = served_same shelf_seen seen request (Ok answer) old mid serves in
        let second = same_memory mid new memory in
        record {
          vid = second.vid ∙ first.vid;
          shape = second.shape ∙ first.shape;
          first = second.first ∙ first.first;
          sound = sound_memory mid new memory fits (served_sound shelf_seen seen request (Ok answer) old mid serves sound);
          entries =
              noted.entries ∙ ap (λ history. history.entries ++ trace ∷ []) unnoted ∙ ap (λ xs. xs ++ trace ∷ []) serves.noted.entries
              ∙ append_assoc old.history.entries (traces_of settles) (trace ∷ []) ∙ ap (λ xs. old.history.entries ++ xs) (sym (traces_on settles (part ∷ [])));
          spare = let sum = length-append settles (part ∷ []) in let same = ap (λ history. history.spare) unnoted in omega (arith, sum, same, noted.spare, serves.noted.spare);
          told = second.told ∙ first.told;
          quiet = second.quiet ∙ first.quiet;
          count = omega (arith, first.count, second.count);
          faults =
              let sum = faults_more settles (part ∷ []) in
              let none = settles_faultless (disk_of request) serves.told in
              let one = faults_heard answer (all.faults_of shelf_seen seen old.stations) (all.faults_of shelf_seen seen mid.stations) (seen old.entry.book.log.file).faults serves.counts in
              let stations = ap (λ (x : WorldOver H F). all.faults_of shelf_seen seen x.stations) memory.only in
              let file = ap (λ book. (seen book.log.file).faults) memory.book ∙ ap (λ (x : WorldOver H F). (seen x.entry.book.log.file).faults) serves.rest in
              omega (arith, sum, none, one, stations, file);
          leads = λ w is apart carries.
              let may = sendable w is.stands in
              let right = carries (events.Send request) (replies.Heard answer) (in_back (Part.Asking (events.Send request) (replies.Heard answer)) settles (part ∷ []) (inl refl)) in
              let led = led_by_heard w is.stands (open_ w is.stands) may (carries_sent (shape_of old.shape).total old.shape.mode w.state.puts w.state.manager request may right) in
              (led.0, led.1, record { stands = led.2; short = short_memory mid new memory (served_short shelf_seen seen request (Ok answer) old mid serves is.short) });
        }
