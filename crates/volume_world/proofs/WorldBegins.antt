-- A put begins, and ends: what a world stands for stays, since a blob that wasn't begun has no shard anywhere.
use Rattle.std.proofs.Common.{◌≡◌, ◌∙◌, sym, ap, refl, subst, ℕ, ◌<◌, Bool, true, false, cond, ◌==◌, List, All, Option, Some, None, IfSome, Ok, eqb-true}
use Rattle.std.specs.Prelude.{is_some}
use Rattle.unit_id.specs.Place.{Place}
use Rattle.unit_id.specs.declared.request.Request as sent
use Rattle.unit_id.specs.declared.request.Request.TheVariants as requests
use Rattle.unit_id.specs.Messages.{place_at}
use Rattle.disk_base.specs.Disk.{FileView}
use Rattle.disk_base.specs.Shelves.{ShelfView}
use Rattle.shard_record.specs.declared.record.ShardRecord.{ShardRecord}
use Rattle.shard_record.specs.declared.record.ShardRecord.TheVariants as records
use Rattle.code_mode.specs.declared.mode.Mode.{Mode}
use Rattle.code_mode.specs.Mode.{total_count}
use Rattle.code_mode.specs.Payload.{payload_bytes}
use Rattle.code_mode.specs.declared.payload.Payload.{Payload}
use Rattle.code_mode.specs.PayloadShard.{PayloadShard, payload_shard}
use Rattle.code_mode.specs.VolumeShape.{VolumeShape, volume_shape}
use Rattle.blob_node.specs.Holding.{Written}
use Rattle.volume_entry.specs.Manager.{Lock, IsBid}
use Rattle.volume_entry.specs.ManagerStep.{task_of}
use Rattle.volume_entry.specs.Reply.{Reply as ToldReply}
use Rattle.volume_entry.specs.View.{flags_of}
use Rattle.volume_entry.specs.ShownView.{lock_shown, view_shown}
use Rattle.volume_entry.specs.TableParts.{shape_of}
use Rattle.volume_entry.specs.declared.view.LockView.{LockView}
use Rattle.volume_entry.specs.declared.view.View.{View}
use Rattle.volume_world.specs.Event.{Event as ToldEvent}
use Rattle.volume_world.specs.State.{Status, Puts, Post, State}
use Rattle.volume_world.specs.BlobStatus.{is_begun, is_open}
use Rattle.volume_world.specs.Move.{Move, Moves, Ends, opened, ended, begin_refusal}
use Rattle.volume_world.specs.Run.{World}
use Rattle.volume_world.specs.Trace.{trace_of, reply_kept}
use Rattle.volume_world.specs.Beginning.{BeginsBy, IsHeldBy}
use Rattle.volume_world.specs.PutBook.{Books, EndsWith, puts_ended}
use Rattle.volume_world.specs.World.{WorldOver, Stands, IsBegunShard, CarriesBegun, HasBegunRecord, IsPosted, AreBytes, ArePosted, AreAsBegun}
use Rattle.volume_world.specs.WorldSteps.{LeadsOn}
use Rattle.volume_world.specs.declared.late.LateItem.{LateItem}
use Rattle.volume_world.specs.declared.late.LateItem.TheVariants as items
use Rattle.volume_world.specs.declared.event.Event.TheVariants as events
use Rattle.volume_world.specs.declared.reply.Reply.{Reply}
use Rattle.volume_world.specs.declared.reply.Reply.TheVariants as replies
use Rattle.volume_world.specs.declared.trace.TraceEvent.TheVariants as kept_event
use Rattle.volume_world.proofs.PutsStay.{PutsStay, move_stay}
use Rattle.volume_world.proofs.WorldFrames.{noted}
use Rattle.volume_world.proofs.OneMove.{entry_of_move}

-- ---- where each blob that was begun stays so, with its payload

module _ (mode : Mode) (puts after : Puts) (stay : PutsStay puts after) where
  shard_stays : (place : Place) (bid : ℕ) (shard : PayloadShard) → IsBegunShard mode puts place bid shard → IsBegunShard mode after place bid shard
  shard_stays place bid shard is =
      let still = stay bid is.begun in
      record { begun = still.begun; right = is.right ∙ ap (λ payload. payload_shard mode payload place.index) (sym still.payload) }

  record_stays : (place : Place) (item : ShardRecord) → HasBegunRecord mode puts place item → HasBegunRecord mode after place item
  record_stays place (records.Shard bid unit blob_size bytes) is = shard_stays place bid (record { blob_size = blob_size; bytes = bytes }) is
  record_stays place (records.Mark bid unit) is = tt
  record_stays place (records.Free bid unit) is = tt
  record_stays place (records.Fence lock unit) is = tt
  record_stays place (records.Release unit) is = tt

  doubt_stays : (place : Place) (doubt : Option ShardRecord) → IfSome doubt (HasBegunRecord mode puts place) → IfSome doubt (HasBegunRecord mode after place)
  doubt_stays place None is = tt
  doubt_stays place (Some item) is = record_stays place item is

  pub begun_stays : (written : Place → Written) → AreAsBegun mode puts written → AreAsBegun mode after written
  begun_stays written are place = record {
    rows_are = λ bid blob_size bytes row. shard_stays place bid (record { blob_size = blob_size; bytes = bytes }) ((are place).rows_are bid blob_size bytes row);
    doubt_is = doubt_stays place (written place).doubt (are place).doubt_is;
  }

  carried_stays : (request : sent.Request) → CarriesBegun mode puts request → CarriesBegun mode after request
  carried_stays (requests.Create unit disk) is = tt
  carried_stays (requests.Fence unit disk lock) is = tt
  carried_stays (requests.Put unit disk bid blob_size bytes) is = shard_stays (place_at unit disk) bid (record { blob_size = blob_size; bytes = bytes }) is
  carried_stays (requests.Read unit disk bid) is = tt
  carried_stays (requests.List unit disk lock) is = tt
  carried_stays (requests.Copy unit disk bid blob_size bytes) is = shard_stays (place_at unit disk) bid (record { blob_size = blob_size; bytes = bytes }) is
  carried_stays (requests.Mark unit disk bid) is = tt
  carried_stays (requests.Free unit disk bid) is = tt
  carried_stays (requests.Release unit disk) is = tt

  item_stays : (post : Post) (item : LateItem) → IsPosted mode puts post item → IsPosted mode after post item
  item_stays post (items.Request request) is = (is.0, carried_stays request is.1)
  item_stays post (items.Answer request answer) is = is

  pub posted_stays : (post : Post) (late : List LateItem) → ArePosted mode puts post late → ArePosted mode after post late
  posted_stays post late are item there = item_stays post item (are item there)

-- ---- payloads

opened_bytes : (puts : Puts) (bid : ℕ) (payload : List ℕ) (end : ℕ) → All (λ b. b < 256) payload → AreBytes puts → AreBytes (opened bid payload end puts)
opened_bytes puts bid payload end fine bytes q = go (q == bid) where
  go : (t : Bool) → is_begun (cond t Status.Open (puts.status q)) ≡ true → All (λ b. b < 256) (cond t payload (puts.payload q))
  go true begun = fine
  go false begun = bytes q begun

open_begun : (status : Status) → is_open status ≡ true → is_begun status ≡ true
open_begun Status.NotBegun e = e
open_begun Status.Open e = refl
open_begun Status.Acked e = refl
open_begun Status.Failed e = refl

ended_bytes : (puts : Puts) (bid : ℕ) (status : Status) → is_open (puts.status bid) ≡ true → AreBytes puts → AreBytes (ended bid status puts)
ended_bytes puts bid status was_open bytes q = go (q == bid) refl where
  go : (t : Bool) → (q == bid) ≡ t → is_begun (cond t status (puts.status q)) ≡ true → All (λ b. b < 256) (puts.payload q)
  go true e begun = bytes q (open_begun (puts.status q) (ap (λ b. is_open (puts.status b)) (eqb-true q bid e) ∙ was_open))
  go false e begun = bytes q begun

end_bytes : (shape : VolumeShape) (bid : ℕ) (s : State) (told : ToldReply) (t : State) → Ends shape bid s told t → AreBytes s.puts → AreBytes t.puts
end_bytes shape bid s ToldReply.NotOpen t h bytes = subst (λ (u : State). AreBytes u.puts) (sym h.1) bytes
end_bytes shape bid s (ToldReply.LeaseOver end time) t h bytes = subst (λ (u : State). AreBytes u.puts) (sym h.4) (ended_bytes s.puts bid Status.Failed h.0 bytes)
end_bytes shape bid s (ToldReply.Quorum accepted) t h bytes = subst (λ (u : State). AreBytes u.puts) (sym h.4) (ended_bytes s.puts bid Status.Failed h.0 bytes)
end_bytes shape bid s (ToldReply.Acked accepted) t h bytes = subst (λ (u : State). AreBytes u.puts) (sym h.4) (ended_bytes s.puts bid Status.Acked h.0 bytes)
end_bytes shape bid s told t h bytes = absurd h

-- ---- what a look shows of the lock

unlocked : (vid : ℕ) (broken : ℕ → Bool) (lock : Option Lock) → lock_shown vid broken lock ≡ None → lock ≡ None
unlocked vid broken None e = refl
unlocked vid broken (Some lock) e = cc

locked : (vid : ℕ) (broken : ℕ → Bool) (lock : Option Lock) (shown : LockView) → lock_shown vid broken lock ≡ Some shown
    → (is_some lock ≡ true) × (task_of lock ≡ shown.task)
locked vid broken None shown e = cc
locked vid broken (Some lock) shown e = (refl, ap held_task e) where
  held_task : Option LockView → ℕ
  held_task None = lock.task
  held_task (Some view) = view.task

module _ {H F : Type 0} (shelf_seen : H → ShelfView F) (seen : F → FileView) (old new : WorldOver H F) (w : World) (stands : Stands shelf_seen seen old w) where
  -- only the puts change
  pub puts_changed : (after : Puts) → new ≡ record old { puts = new.puts; history = new.history } → PutsStay w.state.puts after
      → Books (shape_of old.shape).total new.puts.puts after → AreBytes after → Stands shelf_seen seen new (record w { state = record (w.state) { puts = after } })
  puts_changed after only stay books bytes =
      subst (λ (x : WorldOver H F). Stands shelf_seen seen x (record w { state = record (w.state) { puts = after } })) (sym only) (record {
        manager = stands.manager;
        written = stands.written;
        stations = stands.stations;
        as_begun = begun_stays old.shape.mode w.state.puts after stay stands.written stands.as_begun;
        puts = books;
        bytes = bytes;
        posted = posted_stays old.shape.mode w.state.puts after stay w.state.post old.late.items stands.posted;
        time = stands.time;
        broken = stands.broken;
        planned = stands.planned;
        late = stands.late;
      })

  -- ---- a put begins, by what a look shows

  module _ (bid : ℕ) (payload : Payload) (view : View) (open_ : w.state.manager.is_shut ≡ false) (fits : IsBid bid)
      (shows : view ≡ view_shown old.vid w.state.broken w.state.time w.state.manager) where
    -- a task has the lock
    pub begin_locked : (lock : LockView) → view.held ≡ Some lock → new ≡ record old { history = new.history }
        → LeadsOn shelf_seen seen old w (trace_of (events.Begin bid payload) (replies.Locked lock.task)) new
    begin_locked lock held only =
        let its = locked old.vid w.state.broken w.state.manager.lock lock (sym (ap (λ (v : View). v.held) shows) ∙ held) in
        record {
          then_ = w;
          may_be = entry_of_move old.vid (shape_of old.shape) w (kept_event.Begin bid payload) (reply_kept (replies.Locked lock.task)) (ToldReply.Locked (task_of w.state.manager.lock))
              w.state tt (open_, (fits, ((λ i. refused (its.0 i)), refl))) its.1;
          stands = noted shelf_seen seen old new w only stands;
        } where
          refused : Bool → Option ToldReply
          refused held = cond held (Some (ToldReply.Locked (task_of w.state.manager.lock))) (cond (is_begun (w.state.puts.status bid)) (Some ToldReply.BeginTwice) None)

    -- the blob was begun before
    pub begin_twice : view.held ≡ None → is_begun (w.state.puts.status bid) ≡ true → new ≡ record old { history = new.history }
        → LeadsOn shelf_seen seen old w (trace_of (events.Begin bid payload) replies.BeginTwice) new
    begin_twice held begun only =
        let free = unlocked old.vid w.state.broken w.state.manager.lock (sym (ap (λ (v : View). v.held) shows) ∙ held) in
        record {
          then_ = w;
          may_be = entry_of_move old.vid (shape_of old.shape) w (kept_event.Begin bid payload) (reply_kept replies.BeginTwice) ToldReply.BeginTwice
              w.state tt (open_, (fits, ((λ i. begin_refusal (begun i) (free i)), refl))) tt;
          stands = noted shelf_seen seen old new w only stands;
        }

    -- the put is open
    pub begin_done : view.held ≡ None → is_begun (w.state.puts.status bid) ≡ false → All (λ b. b < 256) (payload_bytes payload)
        → ((total : ℕ) (puts : Puts) (bytes : List ℕ) → Books total old.puts.puts puts → Books total new.puts.puts (opened bid bytes view.lease puts))
        → new ≡ record old { puts = new.puts; history = new.history }
        → LeadsOn shelf_seen seen old w (trace_of (events.Begin bid payload) (replies.Begun view.lease view.units)) new
    begin_done held fresh fine books only =
        let s = w.state in
        let m = s.manager in
        let free = unlocked old.vid s.broken m.lock (sym (ap (λ (v : View). v.held) shows) ∙ held) in
        let after : Puts = opened bid (payload_bytes payload) m.lease_end s.puts in
        let told : ToldReply = ToldReply.Begun m.lease_end m.homes (flags_of s.broken m.homes) in
        let moved : Moves (shape_of old.shape) s (Move.Happen (ToldEvent.Begin bid (payload_bytes payload)) told) (record s { puts = after }) =
        (open_, (fits, ((λ i. begin_refusal (fresh i) (free i)), refl, refl, refl, refl))) in
        record {
          then_ = record w { state = record s { puts = after } };
          may_be = entry_of_move old.vid (shape_of old.shape) w (kept_event.Begin bid payload) (reply_kept (replies.Begun view.lease view.units)) told
              (record s { puts = after }) tt moved
              (sym (ap (λ (v : View). v.lease) shows), ap (λ (v : View). v.units) shows);
          stands = puts_changed after only (move_stay (shape_of old.shape) s (Move.Happen (ToldEvent.Begin bid (payload_bytes payload)) told) (record s { puts = after }) moved)
              (subst (λ end. Books (shape_of old.shape).total new.puts.puts (opened bid (payload_bytes payload) end s.puts)) (ap (λ (v : View). v.lease) shows)
              (books (shape_of old.shape).total s.puts (payload_bytes payload) stands.puts))
              (opened_bytes s.puts bid (payload_bytes payload) m.lease_end fine stands.bytes);
        }

    -- what `begin_put` answers
    pub begin_answered : (reply : Reply) → All (λ b. b < 256) (payload_bytes payload) → BeginsBy bid view old.puts new.puts (Ok reply)
        → new ≡ record old { puts = new.puts; history = new.history } → LeadsOn shelf_seen seen old w (trace_of (events.Begin bid payload) reply) new
    begin_answered (replies.Locked task) fine begins only = go view.held refl begins.0 where
      same : new ≡ record old { history = new.history }
      same = only ∙ (λ i. record old { puts = begins.1 i; history = new.history })

      go : (held : Option LockView) → view.held ≡ held → IsHeldBy task held → LeadsOn shelf_seen seen old w (trace_of (events.Begin bid payload) (replies.Locked task)) new
      go None e is = absurd is
      go (Some lock) e is = subst (λ t. LeadsOn shelf_seen seen old w (trace_of (events.Begin bid payload) (replies.Locked t)) new) (sym is) (begin_locked lock e same)
    begin_answered replies.BeginTwice fine begins only =
        begin_twice begins.0 (begins.1 (shape_of old.shape).total w.state.puts stands.puts) (only ∙ (λ i. record old { puts = begins.2 i; history = new.history }))
    begin_answered (replies.Begun end units) fine begins only =
        subst (λ r. LeadsOn shelf_seen seen old w (trace_of (events.Begin bid payload) r) new) (sym (λ i. replies.Begun (begins.0.lease i) (begins.1 i)))
        (begin_done begins.0.free (begins.0.fresh (shape_of old.shape).total w.state.puts stands.puts) fine
        (subst (λ lease. (total : ℕ) (puts : Puts) (bytes : List ℕ) → Books total old.puts.puts puts → Books total new.puts.puts (opened bid bytes lease puts)) begins.0.lease begins.0.books)
        only)
    begin_answered reply fine begins only = absurd begins

  -- ---- a put ends

  pub end_done : (bid : ℕ) (reply : Reply) → w.state.manager.is_shut ≡ false
      → ((disks : ℕ) (s : State) → s.time ≡ old.time → Books (total_count old.shape.mode) old.puts.puts s.puts
      → EndsWith (volume_shape old.shape.mode disks) bid s reply × Books (total_count old.shape.mode) new.puts.puts (puts_ended bid reply s.puts))
      → new ≡ record old { puts = new.puts; history = new.history }
      → LeadsOn shelf_seen seen old w (trace_of (events.End bid) reply) new
  end_done bid reply open_ ends only =
      let s = w.state in
      let h = ends old.shape.disks s stands.time stands.puts in
      let after : Puts = puts_ended bid reply s.puts in
      let moved : Moves (shape_of old.shape) s (Move.Happen (ToldEvent.End bid) h.0.told) (record s { puts = after }) = (open_, h.0.ends) in
      record {
        then_ = record w { state = record s { puts = after } };
        may_be = entry_of_move old.vid (shape_of old.shape) w (kept_event.End bid) (reply_kept reply) h.0.told (record s { puts = after }) tt moved (h.0.tells old.vid);
        stands = puts_changed after only (move_stay (shape_of old.shape) s (Move.Happen (ToldEvent.End bid) h.0.told) (record s { puts = after }) moved)
            h.1 (end_bytes (shape_of old.shape) bid s h.0.told (record s { puts = after }) h.0.ends stands.bytes);
      }
