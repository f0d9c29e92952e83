-- What a world stands for when an answer is heard.
use Rattle.std.proofs.Common.{◌≡◌, ◌∙◌, sym, ap, refl, subst, ℕ, Bool, List, Option, None, Some}
use Rattle.std.specs.Prelude.{IfSome}
use Rattle.unit_id.specs.Place.{Place}
use Rattle.unit_id.specs.Messages.{place_at, request_of, answer_of}
use Rattle.unit_id.specs.Request.{Request, Answer}
use Rattle.unit_id.specs.declared.request.Request as sent
use Rattle.unit_id.specs.declared.request.Request.TheVariants as requests
use Rattle.unit_id.specs.declared.answer.Answer as answered
use Rattle.disk_base.specs.Disk.{FileView}
use Rattle.disk_base.specs.Shelves.{ShelfView}
use Rattle.shard_record.specs.declared.record.ShardRecord.{ShardRecord}
use Rattle.shard_record.specs.declared.record.ShardRecord.TheVariants as records
use Rattle.code_mode.specs.declared.mode.Mode.{Mode}
use Rattle.code_mode.specs.PayloadShard.{PayloadShard}
use Rattle.blob_node.specs.Holding.{Written}
use Rattle.volume_entry.specs.Manager.{Manager}
use Rattle.volume_entry.specs.ManagerStep.{hear}
use Rattle.volume_entry.specs.TableParts.{shape_of}
use Rattle.volume_entry.specs.Entry.{is_broken}
use Rattle.volume_entry.specs.Entry as entries
use Rattle.volume_world.specs.State.{Puts, Post}
use Rattle.volume_world.specs.Move.{puts_hear}
use Rattle.volume_world.specs.PutBook.{Books}
use Rattle.volume_world.specs.Run.{World}
use Rattle.volume_world.specs.Serving.{once_heard}
use Rattle.volume_world.specs.World.{WorldOver, Stands, IsBegunShard, HasBegunRecord, CarriesBegun, AreAsBegun, ArePosted}
use Rattle.volume_world.specs.declared.late.LateItem.{LateItem}
use Rattle.volume_world.specs.declared.late.LateItem.TheVariants as items

-- puts hear only which indexes accepted them
pub only_accepted : (request : Request) (answer : Answer) (puts : Puts) → puts_hear request answer puts ≡ record puts { accepted = (puts_hear request answer puts).accepted }
only_accepted (Request.Put place bid) Answer.Done puts = refl
only_accepted (Request.Put place bid) Answer.Already puts = refl
only_accepted (Request.Put place bid) _ puts = refl
only_accepted request answer puts = refl

-- .. so what was begun is begun still, with the same payload
module _ (mode : Mode) (puts : Puts) (accepted : ℕ → ℕ → Bool) where
  abbrev heard : Puts
  heard = record puts { accepted = accepted }

  begun_still : (place : Place) (bid : ℕ) (shard : PayloadShard) → IsBegunShard mode puts place bid shard → IsBegunShard mode heard place bid shard
  begun_still place bid shard is = record { begun = is.begun; right = is.right }

  record_still : (place : Place) (item : ShardRecord) → HasBegunRecord mode puts place item → HasBegunRecord mode heard place item
  record_still place (records.Shard bid unit blob_size bytes) has = begun_still place bid (record { blob_size = blob_size; bytes = bytes }) has
  record_still place (records.Mark bid unit) has = tt
  record_still place (records.Free bid unit) has = tt
  record_still place (records.Fence lock unit) has = tt
  record_still place (records.Release unit) has = tt

  doubt_still : (place : Place) (doubt : Option ShardRecord) → IfSome doubt (HasBegunRecord mode puts place) → IfSome doubt (HasBegunRecord mode heard place)
  doubt_still place None has = tt
  doubt_still place (Some item) has = record_still place item has

  as_begun_still : (written : Place → Written) → AreAsBegun mode puts written → AreAsBegun mode heard written
  as_begun_still written begun place = record {
    rows_are = λ bid blob_size bytes at. begun_still place bid (record { blob_size = blob_size; bytes = bytes }) ((begun place).rows_are bid blob_size bytes at);
    doubt_is = doubt_still place (written place).doubt (begun place).doubt_is;
  }

  pub carries_still : (request : sent.Request) → CarriesBegun mode puts request → CarriesBegun mode heard request
  carries_still (requests.Put unit disk bid blob_size bytes) carries = begun_still (place_at unit disk) bid (record { blob_size = blob_size; bytes = bytes }) carries
  carries_still (requests.Copy unit disk bid blob_size bytes) carries = begun_still (place_at unit disk) bid (record { blob_size = blob_size; bytes = bytes }) carries
  carries_still request carries = tt

  posted_still : (post : Post) (late : List LateItem) → ArePosted mode puts post late → ArePosted mode heard post late
  posted_still post late posted (items.Request request) there = let was = posted (items.Request request) there in (was.0, carries_still request was.1)
  posted_still post late posted (items.Answer request answer) there = posted (items.Answer request answer) there

module _ {H F : Type 0} (shelf_seen : H → ShelfView F) (seen : F → FileView) (old new : WorldOver H F) (w : World) (only : new ≡ record old { entry = new.entry; puts = new.puts })
    (broken : new.entry.broken ≡ old.entry.broken) where
  -- other indexes have accepted puts, and the manager's part is another
  accepted_stands : (m : Manager) (accepted : ℕ → ℕ → Bool) → entries.Stands seen new.entry m → Books (shape_of old.shape).total new.puts.puts (record (w.state.puts) { accepted = accepted })
      → Stands shelf_seen seen old w → Stands shelf_seen seen new (record w { state = record (w.state) { manager = m; puts = record (w.state.puts) { accepted = accepted } } })
  accepted_stands m accepted manager books stands =
      subst (λ (x : WorldOver H F). Stands shelf_seen seen x (record w { state = record (w.state) { manager = m; puts = record (w.state.puts) { accepted = accepted } } })) (sym only)
      (record {
        manager = manager;
        written = stands.written;
        stations = stands.stations;
        as_begun = as_begun_still old.shape.mode w.state.puts accepted stands.written stands.as_begun;
        puts = books;
        bytes = stands.bytes;
        posted = posted_still old.shape.mode w.state.puts accepted w.state.post old.late.items stands.posted;
        time = stands.time;
        broken = λ disk. stands.broken disk ∙ ap (λ flags. is_broken flags disk) (sym broken);
        planned = stands.planned;
        late = stands.late;
      })

  -- the answer is heard
  pub heard_stands : (request : sent.Request) (answer : answered.Answer) → entries.Stands seen new.entry (hear (request_of request) (answer_of answer) w.state.manager)
      → Books (shape_of old.shape).total new.puts.puts (puts_hear (request_of request) (answer_of answer) w.state.puts)
      → Stands shelf_seen seen old w → Stands shelf_seen seen new (record w { state = once_heard request answer w.state })
  heard_stands request answer manager books stands =
      let same = only_accepted (request_of request) (answer_of answer) w.state.puts in
      let m = hear (request_of request) (answer_of answer) w.state.manager in
      subst (λ (puts : Puts). Stands shelf_seen seen new (record w { state = record (w.state) { manager = m; puts = puts } })) (sym same)
      (accepted_stands m (puts_hear (request_of request) (answer_of answer) w.state.puts).accepted manager
      (subst (λ (puts : Puts). Books (shape_of old.shape).total new.puts.puts puts) same books) stands)

  -- nothing is heard, and memory stands for the same
  pub unheard_stands : ((m : Manager) → entries.Stands seen old.entry m → entries.Stands seen new.entry m) → new.puts ≡ old.puts → Stands shelf_seen seen old w → Stands shelf_seen seen new w
  unheard_stands manager puts stands =
      accepted_stands w.state.manager w.state.puts.accepted (manager w.state.manager stands.manager)
      (subst (λ book. Books (shape_of old.shape).total book w.state.puts) (ap (λ x. x.puts) (sym puts)) stands.puts) stands
