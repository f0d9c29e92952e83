-- How units answer a task under its lock: destinations that are made, old units that are fenced, and units that are listed and read.
use Rattle.std.proofs.Common.{◌≡◌, ℕ, ◌<◌, ◌⊎◌, inl, inr, true, false, cond, ◌&&◌, ◌==◌, List, ◌∷◌, Option, Some, refl, sym, ◌∙◌, ap, subst, arith}
use Rattle.unit_id.specs.Lists.{IsIn, is_in}
use Rattle.unit_id.specs.UnitName.{Name}
use Rattle.unit_id.specs.Place.{Location, Place, at_home}
use Rattle.unit_id.specs.Request.{Request, Answer}
use Rattle.unit_id.specs.Messages.{place_at, answer_of}
use Rattle.unit_id.specs.declared.request.Request.TheVariants as requests
use Rattle.unit_id.specs.declared.answer.Answer.{Answer as ToldAnswer}
use Rattle.unit_id.specs.declared.answer.Answer.TheVariants as answers
use Rattle.unit_id.proofs.Bools.{contrary, or_left, or_right, and_both, equal_test, same_number}
use Rattle.unit_id.proofs.Membership.{gives_any}
use Rattle.unit_id.proofs.Places.{is_place_self}
use Rattle.blob_node.specs.Units.{RowState, Units, is_live}
use Rattle.blob_node.specs.UnitAnswer.{Effect, UnitView, IsStale, IsListing, Answers, view_at, units_after}
use Rattle.volume_entry.specs.Manager.{Transfer, Manager, home_at, current, transfers_of, has_number, is_old, is_destination_there}
use Rattle.volume_entry.specs.ManagerStep.{hear_listing}
use Rattle.volume_world.specs.Run.{World}
use Rattle.volume_world.specs.Invariant.{Kept}
use Rattle.volume_world.specs.Way.{shape_of}
use Rattle.volume_world.specs.Course.{IsDone, GivesRight}
use Rattle.volume_world.specs.declared.event.Event.TheVariants as events
use Rattle.volume_world.specs.declared.reply.Reply.{Reply as CodeReply}
use Rattle.volume_world.specs.declared.reply.Reply.TheVariants as replies
use Rattle.migrate_task.specs.declared.work.Journey.{Journey}
use Rattle.migrate_task.specs.Completion.{IsUntroubled}
use Rattle.migrate_task.proofs.HeardSends.{Sent, IsTold, is_told}
use Rattle.migrate_task.proofs.Scenes.{Scene, Ground, Standing, IsFresh, total_of, dest_of, in_held, open_held, made_stays, spares_at_dest, stands_on, never_stale, dest_fresh, current_fresh}

-- the journey is that of this transfer
pub record IsTo (s : Scene) (t : Transfer) (j : Journey) : Type 0 where
  pub index : j.index ≡ t.index
  pub old_unit : j.old.unit ≡ record { vid = s.origin.vid; index = t.index; epoch = t.old.epoch }
  pub old_disk : j.old.disk ≡ t.old.disk
  pub old_broken : j.old.broken ≡ s.broken t.old.disk
  pub dest_unit : j.dest.unit ≡ record { vid = s.origin.vid; index = t.index; epoch = t.dest.epoch }
  pub dest_disk : j.dest.disk ≡ t.dest.disk

pub dest_at : (s : Scene) (t : Transfer) (j : Journey) → IsTo s t j → place_at j.dest.unit j.dest.disk ≡ dest_of t
dest_at s t j to = λ i. place_at (to.dest_unit i) (to.dest_disk i)

pub old_at : (s : Scene) (t : Transfer) (j : Journey) → Ground s → IsIn t s.lock.transfers → IsTo s t j → place_at j.old.unit j.old.disk ≡ current s.homes t.index
old_at s t j g i to = (λ k. place_at (to.old_unit k) (to.old_disk k)) ∙ ap (at_home t.index) (sym (g.olds t i))

-- all destinations are made
abbrev pub AreMade : Scene → World → Type 0
AreMade s w = (t : Transfer) → IsIn t s.lock.transfers → w.state.units.is_made (dest_of t) ≡ true

pub still_made : (w u : World) (r : Request) (a : Answer) (e : Effect) (q : Place) → Sent w u r a e → w.state.units.is_made q ≡ true → u.state.units.is_made q ≡ true
still_made w u r a e q sent h = ap (λ (x : Units). x.is_made q) sent.units ∙ made_stays r e w.state.units q h

-- ---- a destination is made

abbrev CreateOutcome : UnitView → Answer → Effect → Type 0
CreateOutcome view Answer.Done Effect.Made = Unit {0}
CreateOutcome view Answer.Already Effect.Nothing = view.was_made view.epoch ≡ true
CreateOutcome view Answer.Fault effect = Unit {0}
CreateOutcome view answer effect = ⊥

create_outcome : (view : UnitView) (p : Place) (a : Answer) (e : Effect) → view.is_broken ≡ false → ((have : ℕ) → IsStale view have → ⊥) → Answers view (Request.Create p) a e → CreateOutcome view a e
create_outcome view p Answer.Broken Effect.Nothing unbroken fresh h = absurd (contrary view.is_broken h unbroken)
create_outcome view p (Answer.Stale have) Effect.Nothing unbroken fresh h = absurd (fresh have h)
create_outcome view p Answer.Done Effect.Made unbroken fresh h = tt
create_outcome view p Answer.Already Effect.Nothing unbroken fresh h = h.1
create_outcome view p Answer.Fault e unbroken fresh h = tt
create_outcome view p a e unbroken fresh h = absurd h.1

created_by : (w u : World) (p : Place) (answer : ToldAnswer) (e : Effect) → IsUntroubled (replies.Heard answer) → CreateOutcome (view_at w.state.broken w.state.units p) (answer_of answer) e → Sent w u (Request.Create p) (answer_of answer) e
    → ((answer ≡ answers.Done) ⊎ (answer ≡ answers.Already)) × (u.state.units.is_made p ≡ true)
created_by w u p answers.Done Effect.Made calm out sent = (inl refl, ap (λ (x : Units). x.is_made p) sent.units ∙ ap (λ b. cond b true (w.state.units.is_made p)) (is_place_self p))
created_by w u p answers.Already Effect.Nothing calm out sent = (inr refl, ap (λ (x : Units). x.is_made p) sent.units ∙ out)
created_by w u p answers.Fault e calm out sent = absurd calm
created_by w u p answer e calm out sent = absurd out

pub record Created (s : Scene) (w u : World) (t : Transfer) (reply : CodeReply) : Type 0 where
  pub answer : ToldAnswer
  pub is : reply ≡ replies.Heard answer
  pub done : (answer ≡ answers.Done) ⊎ (answer ≡ answers.Already)
  pub stands : Standing s u
  pub made : u.state.units.is_made (dest_of t) ≡ true
  pub others : (q : Place) → w.state.units.is_made q ≡ true → u.state.units.is_made q ≡ true

dest_there : (ts : List Transfer) (t : Transfer) → IsIn t ts → is_destination_there ts (dest_of t) ≡ true
dest_there ts t i = gives_any (λ x. ((x.index == t.index) && (x.dest.epoch == t.dest.epoch)) && (x.dest.disk == t.dest.disk)) ts t i
    (and_both ((t.index == t.index) && (t.dest.epoch == t.dest.epoch)) (t.dest.disk == t.dest.disk)
    (and_both (t.index == t.index) (t.dest.epoch == t.dest.epoch) (equal_test t.index t.index refl) (equal_test t.dest.epoch t.dest.epoch refl)) (equal_test t.dest.disk t.dest.disk refl))

pub create_goes : (s : Scene) (w u : World) (t : Transfer) (j : Journey) (reply : CodeReply) → Ground s → Standing s w → IsIn t s.lock.transfers → IsTo s t j
    → IsDone s.origin w (events.Send (requests.Create j.dest.unit j.dest.disk)) reply u → IsUntroubled reply → Created s w u t reply
create_goes s w u t j reply g h i to done calm =
    let p = dest_of t in
    let told : IsTold s.origin w u (requests.Create j.dest.unit j.dest.disk) (Request.Create p) reply =
    is_told s.origin w u (requests.Create j.dest.unit j.dest.disk) (Request.Create p) reply (ap (λ q. Request.Create q) (dest_at s t j to)) h.unshut
    (dest_there (transfers_of w.state.manager.lock) t (in_held s w t h i), open_held s w g h) h.unplanned done in
    let f = dest_fresh s w t g h i in
    let out = create_outcome (view_at w.state.broken w.state.units p) p (answer_of told.answer) told.effect f.unbroken (λ have. never_stale w p have f) told.leaves.answers in
    let by = created_by w u p told.answer told.effect (subst IsUntroubled told.is calm) out told.leaves in
    record {
      answer = told.answer;
      is = told.is;
      done = by.0;
      stands = stands_on s w u (Request.Create p) (answer_of told.answer) told.effect h (told.keeps h.kept) told.leaves (λ puts. refl) (spares_at_dest s w t (Request.Create p) told.effect g i refl);
      made = by.1;
      others = λ q. still_made w u (Request.Create p) (answer_of told.answer) told.effect q told.leaves;
    }

-- ---- an old unit is fenced

abbrev FenceOutcome : Answer → Effect → Type 0
FenceOutcome Answer.Done Effect.Wrote = Unit {0}
FenceOutcome Answer.Done Effect.Started = Unit {0}
FenceOutcome (Answer.Full end) effect = Unit {0}
FenceOutcome Answer.Fault effect = Unit {0}
FenceOutcome answer effect = ⊥

fence_outcome : (view : UnitView) (p : Place) (number : ℕ) (a : Answer) (e : Effect) → view.is_broken ≡ false → ((have : ℕ) → IsStale view have → ⊥) → view.was_made view.epoch ≡ true
    → ((other : ℕ) → view.fence ≡ Some other → other == number ≡ false → ⊥) → Answers view (Request.Fence p number) a e → FenceOutcome a e
fence_outcome view p number Answer.Broken Effect.Nothing unbroken fresh made own h = absurd (contrary view.is_broken h unbroken)
fence_outcome view p number (Answer.Stale have) Effect.Nothing unbroken fresh made own h = absurd (fresh have h)
fence_outcome view p number Answer.NoUnit Effect.Nothing unbroken fresh made own h = absurd (contrary (view.was_made view.epoch) made h.1)
fence_outcome view p number (Answer.Fenced other) Effect.Started unbroken fresh made own h = absurd (own other h.1.1.0 h.1.1.1)
fence_outcome view p number Answer.Done Effect.Wrote unbroken fresh made own h = tt
fence_outcome view p number Answer.Done Effect.Started unbroken fresh made own h = tt
fence_outcome view p number (Answer.Full end) e unbroken fresh made own h = tt
fence_outcome view p number Answer.Fault e unbroken fresh made own h = tt
fence_outcome view p number a e unbroken fresh made own h = absurd h.1.1

-- rows stay
fenced_rows : (p q : Place) (number bid : ℕ) (e : Effect) (x : Units) → FenceOutcome Answer.Done e → (units_after p (Request.Fence p number) e x).row q bid ≡ x.row q bid
fenced_rows p q number bid Effect.Wrote x h = refl
fenced_rows p q number bid Effect.Started x h = refl
fenced_rows p q number bid e x h = absurd h

is_fenced : (answer : ToldAnswer) (e : Effect) → IsUntroubled (replies.Heard answer) → FenceOutcome (answer_of answer) e → answer ≡ answers.Done
is_fenced answers.Done e calm out = refl
is_fenced answers.Fault e calm out = absurd calm
is_fenced (answers.Full end) e calm out = absurd calm
is_fenced answer e calm out = absurd out

pub record Fenced (s : Scene) (w u : World) (t : Transfer) (reply : CodeReply) : Type 0 where
  pub is : reply ≡ replies.Heard answers.Done
  pub stands : Standing s u
  pub here : is_in t.index u.state.manager.heard.fenced ≡ true
  pub before : (n : ℕ) → is_in n w.state.manager.heard.fenced ≡ true → is_in n u.state.manager.heard.fenced ≡ true
  pub made : (q : Place) → w.state.units.is_made q ≡ true → u.state.units.is_made q ≡ true

-- the old unit of a lock is fenced by no other
own_fence : (s : Scene) (w : World) (t : Transfer) (other : ℕ) → Ground s → Standing s w → w.state.units.fence (current s.homes t.index) ≡ Some other → other == s.lock.number ≡ false → ⊥
own_fence s w t other g h fenced apart = elim (h.kept.fencing.fenced (current s.homes t.index) other fenced) [
  | inl own ↦
      let same = subst (λ l. has_number l other ≡ true) h.held own.1 in
      contrary (other == s.lock.number) (equal_test other s.lock.number (sym (same_number s.lock.number other same))) apart
  | inr below ↦ let same = ap (λ (hs : List Location). (home_at hs t.index).epoch) h.homes_are in omega (arith, below, same)
]

old_test : (s : Scene) (w : World) (t : Transfer) → Ground s → Standing s w → IsIn t s.lock.transfers → is_old (transfers_of w.state.manager.lock) (current s.homes t.index) ≡ true
old_test s w t g h i = gives_any (λ x. (x.index == t.index) && (x.old.epoch == (home_at s.homes t.index).epoch)) (transfers_of w.state.manager.lock) t (in_held s w t h i)
    (and_both (t.index == t.index) (t.old.epoch == (home_at s.homes t.index).epoch) (equal_test t.index t.index refl)
    (equal_test t.old.epoch (home_at s.homes t.index).epoch (ap (λ (l : Location). l.epoch) (sym (g.olds t i)))))

pub number_held : (s : Scene) (w : World) → Standing s w → has_number w.state.manager.lock s.lock.number ≡ true
number_held s w h = ap (λ l. has_number l s.lock.number) h.held ∙ equal_test s.lock.number s.lock.number refl

pub old_unbroken : (s : Scene) (t : Transfer) → Ground s → IsIn t s.lock.transfers → s.broken t.old.disk ≡ false → s.broken (home_at s.homes t.index).disk ≡ false
old_unbroken s t g i unbroken = ap (λ (l : Location). s.broken l.disk) (g.olds t i) ∙ unbroken

fenced_more : (m n : Manager) (p : Place) (number : ℕ) → has_number m.lock number ≡ true → is_old (transfers_of m.lock) p ≡ true
    → n.heard.fenced ≡ cond (has_number m.lock number && is_old (transfers_of m.lock) p) (p.index ∷ m.heard.fenced) m.heard.fenced → n.heard.fenced ≡ p.index ∷ m.heard.fenced
fenced_more m n p number own old e =
    e ∙ ap (λ b. cond b (p.index ∷ m.heard.fenced) m.heard.fenced) (and_both (has_number m.lock number) (is_old (transfers_of m.lock) p) own old)

pub fence_goes : (s : Scene) (w u : World) (t : Transfer) (j : Journey) (reply : CodeReply) → Ground s → Standing s w → IsIn t s.lock.transfers → IsTo s t j → s.broken t.old.disk ≡ false
    → IsDone s.origin w (events.Send (requests.Fence j.old.unit j.old.disk s.lock.number)) reply u → IsUntroubled reply → Fenced s w u t reply
fence_goes s w u t j reply g h i to unbroken done calm =
    let p = current s.homes t.index in
    let n = s.lock.number in
    let old = old_test s w t g h i in
    let own = number_held s w h in
    let told : IsTold s.origin w u (requests.Fence j.old.unit j.old.disk n) (Request.Fence p n) reply =
    is_told s.origin w u (requests.Fence j.old.unit j.old.disk n) (Request.Fence p n) reply (ap (λ q. Request.Fence q n) (old_at s t j g i to)) h.unshut (old, own) h.unplanned done in
    let sound = old_unbroken s t g i unbroken in
    let f = current_fresh s w t.index g h (g.below t i) sound in
    let out = fence_outcome (view_at w.state.broken w.state.units p) p n (answer_of told.answer) told.effect f.unbroken (λ have. never_stale w p have f) (h.made t.index (g.below t i) sound)
    (λ other. own_fence s w t other g h) told.leaves.answers in
    let is = is_fenced told.answer told.effect (subst IsUntroubled told.is calm) out in
    let sent = subst (λ a. Sent w u (Request.Fence p n) (answer_of a) told.effect) is told.leaves in
    let more = fenced_more w.state.manager u.state.manager p n own old (ap (λ (m : Manager). m.heard.fenced) sent.manager) in
    let wrote = subst (λ a. FenceOutcome (answer_of a) told.effect) is out in
    record {
      is = told.is ∙ ap (λ a. replies.Heard a) is;
      stands = stands_on s w u (Request.Fence p n) Answer.Done told.effect h (told.keeps h.kept) sent (λ puts. refl) (λ k below bid. fenced_rows p (current s.homes k) n bid told.effect w.state.units wrote);
      here = ap (is_in t.index) more ∙ or_left (t.index == t.index) (is_in t.index w.state.manager.heard.fenced) (equal_test t.index t.index refl);
      before = λ k there. ap (is_in k) more ∙ or_right (k == t.index) (is_in k w.state.manager.heard.fenced) there;
      made = λ q. still_made w u (Request.Fence p n) Answer.Done told.effect q sent;
    }

-- ---- a unit is listed

abbrev ListOutcome : UnitView → ℕ → Answer → Effect → Type 0
ListOutcome view number (Answer.Listing said shown) Effect.Started = (said ≡ number) × IsListing view.row shown
ListOutcome view number Answer.Fault effect = Unit {0}
ListOutcome view number answer effect = ⊥

list_outcome : (view : UnitView) (p : Place) (number : ℕ) (a : Answer) (e : Effect) → view.is_broken ≡ false → ((have : ℕ) → IsStale view have → ⊥) → view.was_made view.epoch ≡ true
    → Answers view (Request.List p number) a e → ListOutcome view number a e
list_outcome view p number Answer.Broken Effect.Nothing unbroken fresh made h = absurd (contrary view.is_broken h unbroken)
list_outcome view p number (Answer.Stale have) Effect.Nothing unbroken fresh made h = absurd (fresh have h)
list_outcome view p number Answer.NoUnit Effect.Nothing unbroken fresh made h = absurd (contrary (view.was_made view.epoch) made h.1)
list_outcome view p number (Answer.Listing said shown) Effect.Started unbroken fresh made h = h.1.1
list_outcome view p number Answer.Fault e unbroken fresh made h = tt
list_outcome view p number a e unbroken fresh made h = absurd h.1.1

pub record Listed (s : Scene) (w u : World) (p : Place) (reply : CodeReply) : Type 0 where
  pub live : List ℕ
  pub marked : List ℕ
  pub is : reply ≡ replies.Heard (answers.Listing s.lock.number live marked)
  pub stands : Standing s u
  pub shows : IsListing (w.state.units.row p) (record { live = live; marked = marked })
  pub heard : u.state.manager.heard ≡ hear_listing (transfers_of w.state.manager.lock) p (record { live = live; marked = marked }) w.state.manager.heard
  pub made : (q : Place) → w.state.units.is_made q ≡ true → u.state.units.is_made q ≡ true

listed_by : (s : Scene) (w u : World) (p : Place) (reply : CodeReply) (answer : ToldAnswer) (e : Effect) → Standing s w → has_number w.state.manager.lock s.lock.number ≡ true → reply ≡ replies.Heard answer
    → IsUntroubled (replies.Heard answer) → ListOutcome (view_at w.state.broken w.state.units p) s.lock.number (answer_of answer) e → Sent w u (Request.List p s.lock.number) (answer_of answer) e
    → (Kept (shape_of s.origin) w.state → Kept (shape_of s.origin) u.state) → Listed s w u p reply
listed_by s w u p reply (answers.Listing said live marked) Effect.Started h own is calm out sent keeps = record {
  live = live;
  marked = marked;
  is = is ∙ ap (λ n. replies.Heard (answers.Listing n live marked)) out.0;
  stands = stands_on s w u (Request.List p s.lock.number) (Answer.Listing said (record { live = live; marked = marked })) Effect.Started h (keeps h.kept) sent (λ puts. refl) (λ i below bid. refl);
  shows = out.1;
  heard = ap (λ (m : Manager). m.heard) sent.manager
      ∙ ap (λ b. cond b (hear_listing (transfers_of w.state.manager.lock) p (record { live = live; marked = marked }) w.state.manager.heard) w.state.manager.heard) own;
  made = λ q. still_made w u (Request.List p s.lock.number) (Answer.Listing said (record { live = live; marked = marked })) Effect.Started q sent;
}
listed_by s w u p reply answers.Fault e h own is calm out sent keeps = absurd calm
listed_by s w u p reply answer e h own is calm out sent keeps = absurd out

pub list_goes : (s : Scene) (w u : World) (unit : Name) (disk : ℕ) (p : Place) (reply : CodeReply) → Standing s w → place_at unit disk ≡ p → IsFresh w p → w.state.units.is_made p ≡ true
    → IsDone s.origin w (events.Send (requests.List unit disk s.lock.number)) reply u → IsUntroubled reply → Listed s w u p reply
list_goes s w u unit disk p reply h at f made done calm =
    let n = s.lock.number in
    let own = number_held s w h in
    let told : IsTold s.origin w u (requests.List unit disk n) (Request.List p n) reply =
    is_told s.origin w u (requests.List unit disk n) (Request.List p n) reply (ap (λ q. Request.List q n) at) h.unshut own h.unplanned done in
    let out = list_outcome (view_at w.state.broken w.state.units p) p n (answer_of told.answer) told.effect f.unbroken (λ have. never_stale w p have f) made told.leaves.answers in
    listed_by s w u p reply told.answer told.effect h own told.is (subst IsUntroubled told.is calm) out told.leaves told.keeps

-- ---- a unit is read

abbrev ReadOutcome : UnitView → ℕ → Answer → Effect → Type 0
ReadOutcome view bid Answer.Live Effect.Started = view.row bid ≡ Some RowState.Live
ReadOutcome view bid Answer.Marked Effect.Started = is_live (view.row bid) ≡ false
ReadOutcome view bid Answer.Gone Effect.Started = is_live (view.row bid) ≡ false
ReadOutcome view bid Answer.Absent Effect.Started = is_live (view.row bid) ≡ false
ReadOutcome view bid Answer.Fault effect = Unit {0}
ReadOutcome view bid answer effect = ⊥

read_outcome : (view : UnitView) (p : Place) (bid : ℕ) (a : Answer) (e : Effect) → view.is_broken ≡ false → ((have : ℕ) → IsStale view have → ⊥) → view.was_made view.epoch ≡ true
    → Answers view (Request.Read p bid) a e → ReadOutcome view bid a e
read_outcome view p bid Answer.Broken Effect.Nothing unbroken fresh made h = absurd (contrary view.is_broken h unbroken)
read_outcome view p bid (Answer.Stale have) Effect.Nothing unbroken fresh made h = absurd (fresh have h)
read_outcome view p bid Answer.NoUnit Effect.Nothing unbroken fresh made h = absurd (contrary (view.was_made view.epoch) made h.1)
read_outcome view p bid Answer.Live Effect.Started unbroken fresh made h = h.1.1
read_outcome view p bid Answer.Marked Effect.Started unbroken fresh made h = ap is_live h.1.1
read_outcome view p bid Answer.Gone Effect.Started unbroken fresh made h = ap is_live h.1.1
read_outcome view p bid Answer.Absent Effect.Started unbroken fresh made h = ap is_live h.1.1
read_outcome view p bid Answer.Fault e unbroken fresh made h = tt
read_outcome view p bid a e unbroken fresh made h = absurd h.1.1

-- a live row gives its shard; any other unit has none
abbrev pub ReadGives : Scene → Name → ℕ → ℕ → Option RowState → ToldAnswer → Type 0
ReadGives s unit disk bid row (answers.Live size bytes) = (is_live row ≡ true) × GivesRight s.origin.mode s.puts (requests.Read unit disk bid) (answers.Live size bytes)
ReadGives s unit disk bid row answer = is_live row ≡ false

pub record Read (s : Scene) (w u : World) (unit : Name) (disk bid : ℕ) (row : Option RowState) (reply : CodeReply) : Type 0 where
  pub answer : ToldAnswer
  pub is : reply ≡ replies.Heard answer
  pub stands : Standing s u
  pub gives : ReadGives s unit disk bid row answer
  pub heard : u.state.manager ≡ w.state.manager
  pub made : (q : Place) → w.state.units.is_made q ≡ true → u.state.units.is_made q ≡ true

read_by : (s : Scene) (w u : World) (unit : Name) (disk bid : ℕ) (p : Place) (row : Option RowState) (reply : CodeReply) (answer : ToldAnswer) (e : Effect) → Standing s w → w.state.units.row p bid ≡ row → reply ≡ replies.Heard answer
    → IsUntroubled (replies.Heard answer) → ReadOutcome (view_at w.state.broken w.state.units p) bid (answer_of answer) e → Sent w u (Request.Read p bid) (answer_of answer) e
    → GivesRight s.origin.mode w.state.puts (requests.Read unit disk bid) answer → (Kept (shape_of s.origin) w.state → Kept (shape_of s.origin) u.state) → Read s w u unit disk bid row reply
read_by s w u unit disk bid p row reply (answers.Live size bytes) Effect.Started h same is calm out sent right keeps = record {
  answer = answers.Live size bytes;
  is = is;
  stands = stands_on s w u (Request.Read p bid) Answer.Live Effect.Started h (keeps h.kept) sent (λ puts. refl) (λ i below b. refl);
  gives = (ap is_live (sym same ∙ out), subst (λ puts. GivesRight s.origin.mode puts (requests.Read unit disk bid) (answers.Live size bytes)) h.puts_are right);
  heard = sent.manager;
  made = λ q. still_made w u (Request.Read p bid) Answer.Live Effect.Started q sent;
}
read_by s w u unit disk bid p row reply answers.Marked Effect.Started h same is calm out sent right keeps = record {
  answer = answers.Marked;
  is = is;
  stands = stands_on s w u (Request.Read p bid) Answer.Marked Effect.Started h (keeps h.kept) sent (λ puts. refl) (λ i below b. refl);
  gives = ap is_live (sym same) ∙ out;
  heard = sent.manager;
  made = λ q. still_made w u (Request.Read p bid) Answer.Marked Effect.Started q sent;
}
read_by s w u unit disk bid p row reply answers.Gone Effect.Started h same is calm out sent right keeps = record {
  answer = answers.Gone;
  is = is;
  stands = stands_on s w u (Request.Read p bid) Answer.Gone Effect.Started h (keeps h.kept) sent (λ puts. refl) (λ i below b. refl);
  gives = ap is_live (sym same) ∙ out;
  heard = sent.manager;
  made = λ q. still_made w u (Request.Read p bid) Answer.Gone Effect.Started q sent;
}
read_by s w u unit disk bid p row reply answers.Absent Effect.Started h same is calm out sent right keeps = record {
  answer = answers.Absent;
  is = is;
  stands = stands_on s w u (Request.Read p bid) Answer.Absent Effect.Started h (keeps h.kept) sent (λ puts. refl) (λ i below b. refl);
  gives = ap is_live (sym same) ∙ out;
  heard = sent.manager;
  made = λ q. still_made w u (Request.Read p bid) Answer.Absent Effect.Started q sent;
}
read_by s w u unit disk bid p row reply answers.Fault e h same is calm out sent right keeps = absurd calm
read_by s w u unit disk bid p row reply answer e h same is calm out sent right keeps = absurd out

-- a current unit on an unbroken disk is read
pub read_goes : (s : Scene) (w u : World) (unit : Name) (disk bid i : ℕ) (reply : CodeReply) → Ground s → Standing s w → place_at unit disk ≡ current s.homes i → i < total_of s → s.broken (home_at s.homes i).disk ≡ false
    → IsDone s.origin w (events.Send (requests.Read unit disk bid)) reply u → IsUntroubled reply → Read s w u unit disk bid (s.row i bid) reply
read_goes s w u unit disk bid i reply g h at below unbroken done calm =
    let p = current s.homes i in
    let told : IsTold s.origin w u (requests.Read unit disk bid) (Request.Read p bid) reply =
    is_told s.origin w u (requests.Read unit disk bid) (Request.Read p bid) reply (ap (λ q. Request.Read q bid) at) h.unshut tt h.unplanned done in
    let f = current_fresh s w i g h below unbroken in
    let out = read_outcome (view_at w.state.broken w.state.units p) p bid (answer_of told.answer) told.effect f.unbroken (λ have. never_stale w p have f) (h.made i below unbroken) told.leaves.answers in
    read_by s w u unit disk bid p (s.row i bid) reply told.answer told.effect h (h.rows i below bid) told.is (subst IsUntroubled told.is calm) out told.leaves told.right told.keeps
