-- The bytes that a get gives are those of the begun payload.
use Rattle.std.proofs.Common.{◌≡◌, ℕ, zero, suc, ◌+◌, ◌<◌, ◌≤◌, inl, inr, Bool, true, false, not, cond, List, [], ◌∷◌, length, take, set, Option, Some, None, IfSome, All, Result, Ok, Err, refl, sym, ◌∙◌, ap, subst, arith}
use Rattle.std.specs.Prelude.{◌==◌, ◌≢◌, is_some, replicate, reverse}
use Rattle.std.proofs.lemmas.Bool.{cases_eq, eqb-true}
use Rattle.std.proofs.lemmas.List.{get_or-set_same, get_or-set_other, length-set}
use Rattle.std.proofs.lemmas.List.Sums.{sum_by-cons}
use Rattle.unit_id.specs.UnitName.{Name}
use Rattle.unit_id.specs.Place.{Location}
use Rattle.unit_id.specs.declared.homes.Home.{Home}
use Rattle.unit_id.specs.declared.request.Request.TheVariants as requests
use Rattle.unit_id.specs.declared.answer.Answer.TheVariants as answers
use Rattle.rs_code.specs.Shards.{shard_at, held_count}
use Rattle.code_mode.specs.VolumeShape.{VolumeShape}
use Rattle.code_mode.specs.PayloadShard.{PayloadShard}
use Rattle.code_mode.specs.declared.mode.Mode.{Mode}
use Rattle.code_mode.specs.Mode.{data_count, total_count, shard_size}
use Rattle.code_mode.specs.Stripe.{shard_of, all_shards, joined, HoldsEnough}
use Rattle.code_mode.proofs.AnyShards.{any_filled, own_data_joined, all_held}
use Rattle.code_mode.proofs.Numbers.{sound_shapes}
use Rattle.volume_entry.specs.Reply.{Reply as ToldReply}
use Rattle.volume_entry.specs.View.{homes_shown}
use Rattle.volume_entry.specs.ShownView.{view_shown}
use Rattle.volume_entry.specs.declared.view.View.{View}
use Rattle.volume_world.specs.State.{State}
use Rattle.volume_world.specs.BlobStatus.{is_begun}
use Rattle.volume_world.specs.Run.{World, Step, Leads}
use Rattle.volume_world.specs.Invariant.{Kept}
use Rattle.volume_world.specs.Told.{Tells}
use Rattle.volume_world.specs.Way.{Origin, WayView, IsWay, shape_of}
use Rattle.volume_world.specs.Course.{Part, GivesRight, IsWhole, IsDone, PartsLead}
use Rattle.volume_world.specs.Call.{Next}
use Rattle.volume_world.specs.Progress.{Comes}
use Rattle.volume_world.specs.declared.event.Event.{Event}
use Rattle.volume_world.specs.declared.event.Event.TheVariants as events
use Rattle.volume_world.specs.declared.reply.Reply.{Reply}
use Rattle.volume_world.specs.declared.reply.Reply.TheVariants as replies
use Rattle.volume_world.specs.declared.trace.TraceAnswer.TheVariants as kept_answer
use Rattle.volume_world.specs.declared.trace.TraceReply.TheVariants as kept_reply
use Rattle.volume_world.proofs.Comings.{comes_rest, comes_front}
use Rattle.volume_world.proofs.Telling.{entry_stays, entry_keeps, way_kept}
use Rattle.blob_access.specs.GetCall.{Wanted, Try, GetStage, GetNext, get_asks, get_call, get_after, unbroken, broken_count, reading, first_read, is_last, look_again, decoded, with_shard, hear_live, after_read, IsPayload, Gets}
use Rattle.blob_access.specs.GetParts.{GetsOn}
use Rattle.blob_access.specs.declared.fault.GetFault.{GetFault}
use Rattle.blob_access.specs.declared.fault.GetFault.TheVariants as faults
use Rattle.blob_access.proofs.Holding.{held_more}

-- a shard of the begun payload, which has the size that is wanted
record IsOwn (wanted : Wanted) (w : World) (index : ℕ) (bytes : List ℕ) : Type 0 where
  begun : is_begun (w.state.puts.status wanted.bid) ≡ true
  small : All (λ b. b < 256) (w.state.puts.payload wanted.bid)
  size : length (w.state.puts.payload wanted.bid) ≡ wanted.size
  shard : bytes ≡ shard_of wanted.mode (w.state.puts.payload wanted.bid) index

-- the indexes of these units ascend from this one on
abbrev AreFrom : Mode → ℕ → List Home → Type 0
AreFrom mode next [] = Unit {0}
AreFrom mode next (home ∷ homes) = (next ≤ home.unit.index) × (home.unit.index < total_count mode) × AreFrom mode (suc home.unit.index) homes

-- what a try has when it reads these units
record IsReading (wanted : Wanted) (w : World) (t : Try) (left : List Home) : Type 0 where
  next : ℕ
  total : length t.shards ≡ total_count wanted.mode
  live : t.live ≡ held_count t.shards
  free : (k : ℕ) → next ≤ k → shard_at t.shards k ≡ None
  own : (k : ℕ) → IfSome (shard_at t.shards k) (λ bytes. IsOwn wanted w k bytes)
  order : AreFrom wanted.mode next left

abbrev StageRight : Wanted → World → GetNext → Type 0
StageRight wanted w (Next.Go (GetStage.Read t home left)) = IsReading wanted w t (home ∷ left)
StageRight wanted w (Next.Go stage) = Unit {0}
StageRight wanted w (Next.Over (Ok bytes)) = IsPayload w wanted.bid bytes
StageRight wanted w (Next.Over (Err other)) = Unit {0}
StageRight wanted w Next.Never = Unit {0}

-- ---- what lasts over an entry

some_map : (P Q : List ℕ → Type 0) (shard : Option (List ℕ)) → ((bytes : List ℕ) → P bytes → Q bytes) → IfSome shard P → IfSome shard Q
some_map P Q None f h = tt
some_map P Q (Some bytes) f h = f bytes h

own_lasts : (shape : VolumeShape) (wanted : Wanted) (w : World) (step : Step) (v : World) (k : ℕ) (bytes : List ℕ) → Leads shape w step v → IsOwn wanted w k bytes → IsOwn wanted v k bytes
own_lasts shape wanted w step v k bytes h own =
    let still = entry_stays shape w step v h wanted.bid own.begun in
    record {
      begun = still.begun;
      small = subst (λ (bytes : List ℕ). All (λ b. b < 256) bytes) (sym still.payload) own.small;
      size = ap length still.payload ∙ own.size;
      shard = own.shard ∙ ap (λ blob. shard_of wanted.mode blob k) (sym still.payload);
    }

reading_lasts : (shape : VolumeShape) (wanted : Wanted) (w : World) (step : Step) (v : World) (t : Try) (left : List Home) → Leads shape w step v → IsReading wanted w t left → IsReading wanted v t left
reading_lasts shape wanted w step v t left h r =
    record {
      next = r.next;
      total = r.total;
      live = r.live;
      free = r.free;
      order = r.order;
      own = λ k. some_map (λ bytes. IsOwn wanted w k bytes) (λ bytes. IsOwn wanted v k bytes) (shard_at t.shards k) (λ bytes own. own_lasts shape wanted w step v k bytes h own) (r.own k);
    }

right_lasts : (shape : VolumeShape) (wanted : Wanted) (w : World) (step : Step) (v : World) (next : GetNext) → Leads shape w step v → StageRight wanted w next → StageRight wanted v next
right_lasts shape wanted w step v (Next.Go (GetStage.Read t home left)) h right = reading_lasts shape wanted w step v t (home ∷ left) h right
right_lasts shape wanted w step v (Next.Go GetStage.First) h right = tt
right_lasts shape wanted w step v (Next.Go (GetStage.Again t)) h right = tt
right_lasts shape wanted w step v (Next.Over (Ok bytes)) h right = let still = entry_stays shape w step v h wanted.bid right.begun in record { begun = still.begun; payload = still.payload ∙ right.payload }
right_lasts shape wanted w step v (Next.Over (Err other)) h right = tt
right_lasts shape wanted w step v Next.Never h right = tt

-- ---- what is read

next_right : (wanted : Wanted) (w : World) (t : Try) (left : List Home) → IsReading wanted w t left → StageRight wanted w (reading t left)
next_right wanted w t [] h = tt
next_right wanted w t (home ∷ left) h = h

from_less : (mode : Mode) (less next : ℕ) (homes : List Home) → less ≤ next → AreFrom mode next homes → AreFrom mode less homes
from_less mode less next [] h f = tt
from_less mode less next (home ∷ homes) h f = let first = f.0 in (omega arith, f.1, f.2)

-- the units that are shown, without those on broken disks
shown_from : (mode : Mode) (vid index : ℕ) (broken : ℕ → Bool) (homes : List Location) → index + length homes ≤ total_count mode → AreFrom mode index (unbroken (homes_shown vid index broken homes))
shown_from mode vid index broken [] h = tt
shown_from mode vid index broken (home ∷ homes) h =
    let rest = shown_from mode vid (suc index) broken homes (omega arith) in
    go (broken home.disk) (omega arith) (omega arith) rest where
      go : (test : Bool) → index < total_count mode → index ≤ index → AreFrom mode (suc index) (unbroken (homes_shown vid (suc index) broken homes))
          → AreFrom mode index (cond (not test) (record { unit = record { vid = vid; index = index; epoch = home.epoch }; disk = home.disk; broken = broken home.disk } ∷ unbroken (homes_shown vid (suc index) broken homes)) (unbroken (homes_shown vid (suc index) broken homes)))
      go true below same rest = from_less mode index (suc index) (unbroken (homes_shown vid (suc index) broken homes)) (omega arith) rest
      go false below same rest = (same, below, rest)

none_held : (n : ℕ) → held_count (replicate n None) ≡ 0
none_held zero = refl
none_held (suc n) =
    let one = sum_by-cons (λ (x : Option (List ℕ)). cond (is_some x) 1 0) None (replicate n None) in
    let rest = none_held n in
    omega arith

none_there : (n k : ℕ) → shard_at (replicate n None) k ≡ None
none_there zero k = refl
none_there (suc n) zero = refl
none_there (suc n) (suc k) = none_there n k

none_long : (n : ℕ) → length (replicate {A = Option (List ℕ)} n None) ≡ n
none_long zero = refl
none_long (suc n) = ap suc (none_long n)

-- a try at its begin, by a look at this state
first_right : (wanted : Wanted) (w : World) (versions : List ℕ) (broken vid : ℕ) (units : List Home) → units ≡ homes_shown vid 0 w.state.broken w.state.manager.homes
    → length w.state.manager.homes ≡ total_count wanted.mode
    → StageRight wanted w (reading (record { versions = versions; broken = broken; shards = replicate (total_count wanted.mode) None; live = 0; unheard = 0 }) (unbroken units))
first_right wanted w versions broken vid units shown count =
    let t : Try = record { versions = versions; broken = broken; shards = replicate (total_count wanted.mode) None; live = 0; unheard = 0 } in
    next_right wanted w t (unbroken units) (record {
      next = 0;
      total = none_long (total_count wanted.mode);
      live = sym (none_held (total_count wanted.mode));
      free = λ k h. none_there (total_count wanted.mode) k;
      own = λ k. subst (λ (shard : Option (List ℕ)). IfSome shard (λ bytes. IsOwn wanted w k bytes)) (sym (none_there (total_count wanted.mode) k)) tt;
      order = subst (λ (homes : List Home). AreFrom wanted.mode 0 (unbroken homes)) (sym shown) (shown_from wanted.mode vid 0 w.state.broken w.state.manager.homes (omega arith));
    })

-- ---- one shard more

own_set : (wanted : Wanted) (u : World) (shards : List (Option (List ℕ))) (i : ℕ) (bytes : List ℕ) → i < length shards → IsOwn wanted u i bytes → ((k : ℕ) → IfSome (shard_at shards k) (λ b. IsOwn wanted u k b))
    → (k : ℕ) → IfSome (shard_at (set shards i (Some bytes)) k) (λ b. IsOwn wanted u k b)
own_set wanted u shards i bytes below own all k = elim (cases_eq k i) [
  | inl same ↦
      let at : shard_at (set shards i (Some bytes)) i ≡ Some bytes = get_or-set_same shards i (Some bytes) None below in
      subst (λ n. IfSome (shard_at (set shards i (Some bytes)) n) (λ b. IsOwn wanted u n b)) (sym same)
      (subst (λ (shard : Option (List ℕ)). IfSome shard (λ b. IsOwn wanted u i b)) (sym at) own)
  | inr apart ↦
      let at : shard_at (set shards i (Some bytes)) k ≡ shard_at shards k = get_or-set_other shards i k (Some bytes) None apart in
      subst (λ (shard : Option (List ℕ)). IfSome shard (λ b. IsOwn wanted u k b)) (sym at) (all k)
]

free_set : (shards : List (Option (List ℕ))) (i : ℕ) (bytes : List ℕ) (next : ℕ) → next ≤ i → ((k : ℕ) → next ≤ k → shard_at shards k ≡ None) → (k : ℕ) → suc i ≤ k → shard_at (set shards i (Some bytes)) k ≡ None
free_set shards i bytes next below free k above =
    let apart : k ≢ i = omega arith in
    get_or-set_other shards i k (Some bytes) None apart ∙ free k (omega arith)

read_more : (wanted : Wanted) (u : World) (t : Try) (home : Home) (left : List Home) (bytes : List ℕ) → IsReading wanted u t (home ∷ left) → IsOwn wanted u home.unit.index bytes
    → IsReading wanted u (with_shard t home.unit.index bytes) left
read_more wanted u t home left bytes r own =
    let i = home.unit.index in
    let above = r.order.0 in
    let within = r.order.1 in
    let total = r.total in
    let below : i < length t.shards = omega arith in
    record {
      next = suc i;
      total = length-set t.shards i (Some bytes) ∙ r.total;
      live = ap (λ n. n + 1) r.live ∙ sym (held_more t.shards i bytes below (r.free i above));
      free = free_set t.shards i bytes r.next above r.free;
      own = own_set wanted u t.shards i bytes below own r.own;
      order = r.order.2;
    }

read_on : (wanted : Wanted) (u : World) (t : Try) (unheard : ℕ) (home : Home) (left : List Home) → IsReading wanted u t (home ∷ left) → IsReading wanted u (record t { unheard = unheard }) left
read_on wanted u t unheard home left r =
    let above = r.order.0 in
    record { next = r.next; total = r.total; live = r.live; free = r.free; own = r.own; order = from_less wanted.mode r.next (suc home.unit.index) left (omega arith) r.order.2 }

-- enough shards of the payload give it
payload_right : (wanted : Wanted) (u : World) (index : ℕ) (bytes : List ℕ) (t : Try) (left : List Home) → IsOwn wanted u index bytes → IsReading wanted u t left → t.live ≡ data_count wanted.mode
    → IsPayload u wanted.bid (decoded wanted t.shards)
payload_right wanted u index bytes t left own r enough =
    let blob = u.state.puts.payload wanted.bid in
    let mode = wanted.mode in
    let live = r.live in
    let holds : HoldsEnough mode blob t.shards = record {
      total = r.total;
      own = λ k. some_map (λ b. IsOwn wanted u k b) (λ b. b ≡ shard_of mode blob k) (shard_at t.shards k) (λ b o. o.shard) (r.own k);
      enough = omega arith;
    } in
    record {
      begun = own.begun;
      payload = sym (ap (λ shards. take wanted.size (joined (data_count mode) shards)) (any_filled mode blob t.shards own.small holds)
          ∙ ap (λ n. take n (joined (data_count mode) (all_shards mode blob))) (sym own.size)
          ∙ own_data_joined mode blob (all_shards mode blob) own.small (λ k below. all_held mode blob k (omega (arith, below))));
    }

live_right : (wanted : Wanted) (u : World) (t : Try) (home : Home) (left : List Home) (blob_size : ℕ) (bytes : List ℕ) → (blob_size ≡ wanted.size → IsOwn wanted u home.unit.index bytes)
    → IsReading wanted u t (home ∷ left) → StageRight wanted u (hear_live wanted t home left blob_size bytes)
live_right wanted u t home left blob_size bytes own r = go (blob_size == wanted.size) (length bytes == shard_size wanted.mode wanted.size) (t.live + 1 == data_count wanted.mode) refl refl where
  go : (a b c : Bool) → (blob_size == wanted.size) ≡ a → (t.live + 1 == data_count wanted.mode) ≡ c
      → StageRight wanted u (cond a (cond b (cond c (Next.Over (Ok (decoded wanted (with_shard t home.unit.index bytes).shards))) (reading (with_shard t home.unit.index bytes) left)) (reading t left)) (Next.Over (Err (faults.Size blob_size))))
  go true true true ea ec =
      let mine = own (eqb-true blob_size wanted.size ea) in
      payload_right wanted u home.unit.index bytes (with_shard t home.unit.index bytes) left mine (read_more wanted u t home left bytes r mine) (eqb-true (t.live + 1) (data_count wanted.mode) ec)
  go true true false ea ec = next_right wanted u (with_shard t home.unit.index bytes) left (read_more wanted u t home left bytes r (own (eqb-true blob_size wanted.size ea)))
  go true false c ea ec = next_right wanted u t left (read_on wanted u t t.unheard home left r)
  go false b c ea ec = tt

-- ---- one event

-- what a live answer carries
pub heard_right : (vid : ℕ) (s : State) (mode : Mode) (unit : Name) (disk bid blob_size : ℕ) (bytes : List ℕ) (reply : ToldReply) → Tells vid s (kept_reply.Heard (kept_answer.Live blob_size)) reply
    → IsWhole mode s.puts (events.Send (requests.Read unit disk bid)) (replies.Heard (answers.Live blob_size bytes)) reply → GivesRight mode s.puts (requests.Read unit disk bid) (answers.Live blob_size bytes)
heard_right vid s mode unit disk bid blob_size bytes (ToldReply.Heard heard) told whole = whole.1
heard_right vid s mode unit disk bid blob_size bytes reply told whole = absurd told

-- what a look shows
pub seen_right : (vid : ℕ) (s : State) (view : View) (reply : ToldReply) → Tells vid s (kept_reply.Seen view) reply → view ≡ view_shown vid s.broken s.time s.manager
seen_right vid s view (ToldReply.Seen seen) told = told
seen_right vid s view reply told = absurd told

given_own : (origin : Origin) (wanted : Wanted) (w u : World) (unit : Name) (disk blob_size : ℕ) (bytes : List ℕ) → wanted.mode ≡ origin.mode
    → IsDone origin w (events.Send (requests.Read unit disk wanted.bid)) (replies.Heard (answers.Live blob_size bytes)) u → blob_size ≡ wanted.size → IsOwn wanted u unit.index bytes
given_own origin wanted w u unit disk blob_size bytes same done size =
    let gives = heard_right origin.vid w.state origin.mode unit disk wanted.bid blob_size bytes done.step.reply done.told.reply done.whole in
    let own : IsOwn wanted w unit.index bytes = record {
      begun = gives.0;
      small = gives.2;
      size = sym (ap (λ (s : PayloadShard). s.blob_size) gives.1) ∙ size;
      shard = ap (λ (s : PayloadShard). s.bytes) gives.1 ∙ ap (λ m. shard_of m (w.state.puts.payload wanted.bid) unit.index) (sym same);
    } in
    own_lasts (shape_of origin) wanted w done.step u unit.index bytes done.leads own

read_right : (origin : Origin) (wanted : Wanted) (w u : World) (t : Try) (home : Home) (left : List Home) (reply : Reply) → wanted.mode ≡ origin.mode
    → IsDone origin w (events.Send (requests.Read home.unit home.disk wanted.bid)) reply u → IsReading wanted u t (home ∷ left) → StageRight wanted u (after_read wanted t home left reply)
read_right origin wanted w u t home left (replies.Heard (answers.Live blob_size bytes)) same done r =
    live_right wanted u t home left blob_size bytes (given_own origin wanted w u home.unit home.disk blob_size bytes same done) r
read_right origin wanted w u t home left (replies.Heard answer) same done r = next_right wanted u t left (read_on wanted u t t.unheard home left r)
read_right origin wanted w u t home left replies.Unheard same done r = next_right wanted u (record t { unheard = t.unheard + 1 }) left (read_on wanted u t (t.unheard + 1) home left r)
read_right origin wanted w u t home left replies.Barred same done r = next_right wanted u (record t { unheard = t.unheard + 1 }) left (read_on wanted u t (t.unheard + 1) home left r)
read_right origin wanted w u t home left replies.Fault same done r = next_right wanted u (record t { unheard = t.unheard + 1 }) left (read_on wanted u t (t.unheard + 1) home left r)
read_right origin wanted w u t home left (replies.Spoiled place) same done r = next_right wanted u (record t { unheard = t.unheard + 1 }) left (read_on wanted u t (t.unheard + 1) home left r)
read_right origin wanted w u t home left reply same done r = tt

look_right : (origin : Origin) (wanted : Wanted) (w u : World) (versions : List ℕ) (event : Event) (view : View) → wanted.mode ≡ origin.mode → Kept (shape_of origin) w.state → IsDone origin w event (replies.Seen view) u
    → StageRight wanted u (first_read wanted.mode versions view)
look_right origin wanted w u versions event view same kept done =
    let shown = seen_right origin.vid w.state view done.step.reply done.told.reply in
    let count : length w.state.manager.homes ≡ total_count wanted.mode = kept.form.lists.homes_count ∙ ap total_count (sym same) in
    right_lasts (shape_of origin) wanted w done.step u (first_read wanted.mode versions view) done.leads
    (first_right wanted w (view.version ∷ versions) (broken_count view.units) origin.vid view.units (ap (λ (v : View). v.units) shown) count)

again_right : (origin : Origin) (wanted : Wanted) (w u : World) (t : Try) (event : Event) (view : View) → wanted.mode ≡ origin.mode → Kept (shape_of origin) w.state → IsDone origin w event (replies.Seen view) u
    → StageRight wanted u (look_again wanted.mode t view)
again_right origin wanted w u t event view same kept done = go (is_last t.versions view.version) (length t.versions == 4) where
  go : (a b : Bool) → StageRight wanted u (cond a (Next.Over (Err (faults.Short t.live t.unheard t.broken))) (cond b (Next.Over (Err (faults.Moving (reverse (view.version ∷ t.versions))))) (first_read wanted.mode t.versions view)))
  go true b = tt
  go false true = tt
  go false false = look_right origin wanted w u t.versions event view same kept done

asked_right : (origin : Origin) (wanted : Wanted) (w u : World) (stage : GetStage) (event : Event) (reply : Reply) → wanted.mode ≡ origin.mode → Kept (shape_of origin) w.state → event ≡ get_asks wanted stage
    → IsDone origin w event reply u → StageRight wanted w (Next.Go stage) → StageRight wanted u (get_after wanted stage reply)
asked_right origin wanted w u GetStage.First event (replies.Seen view) same kept asked done right = look_right origin wanted w u [] event view same kept done
asked_right origin wanted w u GetStage.First event replies.Fault same kept asked done right = tt
asked_right origin wanted w u GetStage.First event (replies.Spoiled place) same kept asked done right = tt
asked_right origin wanted w u GetStage.First event reply same kept asked done right = tt
asked_right origin wanted w u (GetStage.Again t) event (replies.Seen view) same kept asked done right = again_right origin wanted w u t event view same kept done
asked_right origin wanted w u (GetStage.Again t) event replies.Fault same kept asked done right = tt
asked_right origin wanted w u (GetStage.Again t) event (replies.Spoiled place) same kept asked done right = tt
asked_right origin wanted w u (GetStage.Again t) event reply same kept asked done right = tt
asked_right origin wanted w u (GetStage.Read t home left) event reply same kept asked done right =
    read_right origin wanted w u t home left reply same (subst (λ e. IsDone origin w e reply u) asked done) (reading_lasts (shape_of origin) wanted w done.step u t (home ∷ left) done.leads right)

-- over a stretch
comes_right : (origin : Origin) (wanted : Wanted) (w v : World) (from to : GetNext) (parts : List Part) → wanted.mode ≡ origin.mode → Kept (shape_of origin) w.state → Comes (get_call wanted) from parts to
    → PartsLead origin w parts v → StageRight wanted w from → StageRight wanted v to
comes_right origin wanted w v from to [] same kept comes leads right = subst (λ next. StageRight wanted v next) (sym comes) (subst (λ x. StageRight wanted x from) (sym leads) right)
comes_right origin wanted w v from to (Part.Beside trace ∷ parts) same kept comes leads right =
    comes_right origin wanted leads.0 v from to parts same (entry_keeps (shape_of origin) w leads.1.step leads.0 (sound_shapes origin.mode origin.disks) kept leads.1.leads) comes leads.2
    (right_lasts (shape_of origin) wanted w leads.1.step leads.0 from leads.1.leads right)
comes_right origin wanted w v from to (Part.Settling trace ∷ parts) same kept comes leads right =
    comes_right origin wanted leads.0 v from to parts same (entry_keeps (shape_of origin) w leads.1.step leads.0 (sound_shapes origin.mode origin.disks) kept leads.1.leads) comes leads.2
    (right_lasts (shape_of origin) wanted w leads.1.step leads.0 from leads.1.leads right)
comes_right origin wanted w v (Next.Go stage) to (Part.Asking event reply ∷ parts) same kept comes leads right =
    comes_right origin wanted leads.0 v (get_after wanted stage reply) to parts same (entry_keeps (shape_of origin) w leads.1.step leads.0 (sound_shapes origin.mode origin.disks) kept leads.1.leads) comes.1 leads.2
    (asked_right origin wanted w leads.0 stage event reply same kept comes.0 leads.1 right)
comes_right origin wanted w v (Next.Over given) to (Part.Asking event reply ∷ parts) same kept comes leads right = absurd comes
comes_right origin wanted w v Next.Never to (Part.Asking event reply ∷ parts) same kept comes leads right = absurd comes

-- a get that ends well gives the payload
pub ends_right : (origin : Origin) (wanted : Wanted) (w v : World) (bytes : List ℕ) (parts : List Part) → wanted.mode ≡ origin.mode → Kept (shape_of origin) w.state
    → Comes (get_call wanted) (Next.Go GetStage.First) parts (Next.Over (Ok bytes)) → PartsLead origin w parts v → IsPayload v wanted.bid bytes
ends_right origin wanted w v bytes parts same kept comes leads = comes_right origin wanted w v (Next.Go GetStage.First) (Next.Over (Ok bytes)) parts same kept comes leads tt

-- ---- whole gets

same_mode : (old new : WayView) (bid size : ℕ) (result : Result (List ℕ) GetFault) (mode : Mode) → mode ≡ old.origin.mode
    → GetsOn (record { mode = mode; bid = bid; size = size }) old new (Next.Go GetStage.First) result (λ bytes. Next.Over (Ok bytes))
    → GetsOn (record { mode = old.origin.mode; bid = bid; size = size }) old new (Next.Go GetStage.First) result (λ bytes. Next.Over (Ok bytes))
same_mode old new bid size result mode same h = subst (λ (m : Mode). GetsOn (record { mode = m; bid = bid; size = size }) old new (Next.Go GetStage.First) result (λ bytes. Next.Over (Ok bytes))) same h

by_mode : (old new : WayView) (bid size : ℕ) (result : Result (List ℕ) GetFault) → IsWay old
    → GetsOn (record { mode = old.origin.mode; bid = bid; size = size }) old new (Next.Go GetStage.First) result (λ bytes. Next.Over (Ok bytes)) → Gets old new bid size result
by_mode old new bid size (Err faults.HistoryFull) its h = record {
  full = λ e. h.full;
  parts = h.proceeds.parts;
  goes = h.proceeds.goes;
  fits = h.proceeds.fits;
  bytes = λ told. tt;
  call = comes_front (get_call (record { mode = old.origin.mode; bid = bid; size = size })) (Next.Go GetStage.First) h.proceeds.parts h.to h.proceeds.comes;
}
by_mode old new bid size (Err faults.Memory) its h = record {
  full = λ e. absurd (cc e);
  parts = h.proceeds.parts;
  goes = h.proceeds.goes;
  fits = h.proceeds.fits;
  bytes = λ told. tt;
  call = comes_front (get_call (record { mode = old.origin.mode; bid = bid; size = size })) (Next.Go GetStage.First) h.proceeds.parts h.to h.proceeds.comes;
}
by_mode old new bid size (Err other) its h = record {
  full = λ e. absurd (cc e);
  parts = h.parts;
  goes = h.goes;
  fits = h.fits;
  bytes = λ told. tt;
  call = comes_rest (get_call (record { mode = old.origin.mode; bid = bid; size = size })) (Next.Go GetStage.First) h.parts (Err other) h.comes;
}
by_mode old new bid size (Ok bytes) its h = record {
  full = λ e. absurd (cc e);
  parts = h.parts;
  goes = h.goes;
  fits = h.fits;
  call = comes_rest (get_call (record { mode = old.origin.mode; bid = bid; size = size })) (Next.Go GetStage.First) h.parts (Ok bytes) h.comes;
  bytes = λ told w at.
      let lead = h.goes.leads told w at in
      let kept = way_kept old w (sound_shapes old.origin.mode old.origin.disks) its told at in
      (lead.0, lead.1, lead.2, comes_right old.origin (record { mode = old.origin.mode; bid = bid; size = size }) w lead.0 (Next.Go GetStage.First) (Next.Over (Ok bytes)) h.parts refl kept h.comes lead.1 tt);
}

pub gets_whole : (old new : WayView) (bid size : ℕ) (result : Result (List ℕ) GetFault) (mode : Mode) → mode ≡ old.origin.mode → IsWay old
    → GetsOn (record { mode = mode; bid = bid; size = size }) old new (Next.Go GetStage.First) result (λ bytes. Next.Over (Ok bytes)) → Gets old new bid size result
gets_whole old new bid size result mode same its h = by_mode old new bid size result its (same_mode old new bid size result mode same h)
