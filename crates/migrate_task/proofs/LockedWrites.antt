-- Marks and copies that a task sends to destinations under its lock.
use Rattle.std.proofs.Common.{◌≡◌, ℕ, zero, suc, ◌<◌, ◌≤◌, inl, inr, Bool, true, false, cond, not, ◌&&◌, ◌||◌, ◌==◌, List, ◌∷◌, Option, Some, None, refl, sym, ◌∙◌, ap, subst, arith}
use Rattle.std.specs.Prelude.{nat_le}
use Rattle.std.proofs.lemmas.Bool.{leb-true}
use Rattle.unit_id.specs.Lists.{IsIn, is_in, some_below, count_below}
use Rattle.unit_id.specs.Place.{Location, Place}
use Rattle.unit_id.specs.Request.{Request, Answer}
use Rattle.unit_id.specs.Messages.{place_at, answer_of}
use Rattle.unit_id.specs.declared.homes.Home.{Home}
use Rattle.unit_id.specs.declared.request.Request.TheVariants as requests
use Rattle.unit_id.specs.declared.answer.Answer.{Answer as ToldAnswer}
use Rattle.unit_id.specs.declared.answer.Answer.TheVariants as answers
use Rattle.unit_id.proofs.Bools.{contrary, and_right, and_both, or_left, or_right, either, equal_test}
use Rattle.unit_id.proofs.Counts.{counted_some}
use Rattle.unit_id.proofs.Membership.{gives_any}
use Rattle.blob_node.specs.Units.{RowState, is_live, is_deleted}
use Rattle.blob_node.specs.UnitAnswer.{Effect, UnitView, IsStale, Answers, view_at}
use Rattle.code_mode.specs.Mode.{data_count}
use Rattle.code_mode.proofs.Numbers.{sound_numbers}
use Rattle.volume_entry.specs.Manager.{Transfer, Manager, HeardRow, home_at, current, transfers_of, is_destination}
use Rattle.volume_entry.specs.ManagerStep.{hear}
use Rattle.volume_entry.specs.Benchmark.{Due, was_heard, is_settled}
use Rattle.volume_world.specs.BlobStatus.{is_begun}
use Rattle.volume_world.specs.Provenance.{HasCause}
use Rattle.volume_world.specs.State.{Puts}
use Rattle.volume_world.specs.Run.{World}
use Rattle.volume_world.specs.Course.{IsDone}
use Rattle.volume_world.specs.declared.event.Event.TheVariants as events
use Rattle.volume_world.specs.declared.reply.Reply.{Reply as CodeReply}
use Rattle.volume_world.specs.declared.reply.Reply.TheVariants as replies
use Rattle.volume_world.proofs.Written.{old_gives}
use Rattle.migrate_task.specs.Completion.{IsUntroubled}
use Rattle.migrate_task.proofs.HeardSends.{IsTold, is_told}
use Rattle.migrate_task.proofs.Scenes.{Scene, Ground, Standing, total_of, dest_of, in_held, from_held, spares_at_dest, stands_on, never_stale, dest_fresh}
use Rattle.migrate_task.proofs.ShownUnits.{holds, bears, due_by}
use Rattle.migrate_task.proofs.LockedAnswers.{still_made}

-- what was heard of listings stays, and rows and fences are only added
pub record Grows (m n : Manager) : Type 0 where
  pub listings : n.heard.listings ≡ m.heard.listings
  pub fenced : (i : ℕ) → is_in i m.heard.fenced ≡ true → is_in i n.heard.fenced ≡ true
  pub live : (i bid : ℕ) → was_heard m.heard.live i bid ≡ true → was_heard n.heard.live i bid ≡ true
  pub marked : (i bid : ℕ) → was_heard m.heard.marked i bid ≡ true → was_heard n.heard.marked i bid ≡ true

pub dest_test : (s : Scene) (w : World) (t : Transfer) → Standing s w → IsIn t s.lock.transfers → is_destination (transfers_of w.state.manager.lock) (dest_of t) ≡ true
dest_test s w t h i = gives_any (λ x. (x.index == t.index) && (x.dest.epoch == t.dest.epoch)) (transfers_of w.state.manager.lock) t (in_held s w t h i)
    (and_both (t.index == t.index) (t.dest.epoch == t.dest.epoch) (equal_test t.index t.index refl) (equal_test t.dest.epoch t.dest.epoch refl))

-- a destination isn't fenced
dest_unfenced : (s : Scene) (w : World) (t : Transfer) (number : ℕ) → Ground s → Standing s w → IsIn t s.lock.transfers → w.state.units.fence (dest_of t) ≡ Some number → ⊥
dest_unfenced s w t number g h i fenced = elim (h.kept.fencing.fenced (dest_of t) number fenced) [
  | inl own ↦
      let found = old_gives (transfers_of w.state.manager.lock) (dest_of t) own.0 in
      let same = ap (λ (x : Transfer). x.old.epoch) (g.one found.0 t (from_held s w found.0 h found.1) i found.2) in
      let old = ap (λ (l : Location). l.epoch) (g.olds t i) in
      let higher = g.above t i in
      let is = found.3 in
      omega (arith, same, old, higher, is)
  | inr below ↦
      let same = ap (λ (hs : List Location). (home_at hs t.index).epoch) h.homes_are in
      let higher = g.above t i in
      omega (arith, below, same, higher)
]

heard_row : (t : Transfer) (bid : ℕ) (rows : List HeardRow) → was_heard (record { index = t.index; bid = bid } ∷ rows) t.index bid ≡ true
heard_row t bid rows = or_left ((t.index == t.index) && (bid == bid)) (was_heard rows t.index bid) (and_both (t.index == t.index) (bid == bid) (equal_test t.index t.index refl) (equal_test bid bid refl))

-- one row more is heard at a destination
row_more : (test : Bool) (row : HeardRow) (old new : List HeardRow) → test ≡ true → new ≡ cond test (row ∷ old) old → new ≡ row ∷ old
row_more test row old new here e = e ∙ ap (λ b. cond b (row ∷ old) old) here

-- ---- marks

abbrev MarkOutcome : Answer → Effect → Type 0
MarkOutcome Answer.Already Effect.Started = Unit {0}
MarkOutcome Answer.Done Effect.Wrote = Unit {0}
MarkOutcome (Answer.Full end) effect = Unit {0}
MarkOutcome Answer.Fault effect = Unit {0}
MarkOutcome answer effect = ⊥

mark_outcome : (view : UnitView) (p : Place) (bid : ℕ) (a : Answer) (e : Effect) → view.is_broken ≡ false → ((have : ℕ) → IsStale view have → ⊥) → view.was_made view.epoch ≡ true → ((number : ℕ) → view.fence ≡ Some number → ⊥)
    → Answers view (Request.Mark p bid) a e → MarkOutcome a e
mark_outcome view p bid Answer.Broken Effect.Nothing unbroken fresh made unfenced h = absurd (contrary view.is_broken h unbroken)
mark_outcome view p bid (Answer.Stale have) Effect.Nothing unbroken fresh made unfenced h = absurd (fresh have h)
mark_outcome view p bid Answer.NoUnit Effect.Nothing unbroken fresh made unfenced h = absurd (contrary (view.was_made view.epoch) made h.1)
mark_outcome view p bid (Answer.Fenced number) Effect.Started unbroken fresh made unfenced h = absurd (unfenced number h.1.1)
mark_outcome view p bid Answer.Already Effect.Started unbroken fresh made unfenced h = tt
mark_outcome view p bid Answer.Done Effect.Wrote unbroken fresh made unfenced h = tt
mark_outcome view p bid (Answer.Full end) e unbroken fresh made unfenced h = tt
mark_outcome view p bid Answer.Fault e unbroken fresh made unfenced h = tt
mark_outcome view p bid a e unbroken fresh made unfenced h = absurd h.1.1

-- what the answer to a mark or a copy leaves
pub record Wrote (s : Scene) (w u : World) (t : Transfer) (bid : ℕ) (due : Due) : Type 0 where
  pub stands : Standing s u
  pub grows : Grows w.state.manager u.state.manager
  pub settled : is_settled u.state.manager.heard bid due t.index ≡ true
  pub made : (q : Place) → w.state.units.is_made q ≡ true → u.state.units.is_made q ≡ true

abbrev pub IsMarkDone : ToldAnswer → Type 0
IsMarkDone answers.Done = Unit {0}
IsMarkDone answers.Already = Unit {0}
IsMarkDone answer = ⊥

pub record Marked (s : Scene) (w u : World) (t : Transfer) (bid : ℕ) (reply : CodeReply) : Type 0 where
  pub answer : ToldAnswer
  pub is : reply ≡ replies.Heard answer
  pub done : IsMarkDone answer
  pub wrote : Wrote s w u t bid Due.Mark

-- a marked row more
marked_grows : (m n : Manager) (t : Transfer) (bid : ℕ) → n.heard.listings ≡ m.heard.listings → n.heard.fenced ≡ m.heard.fenced → n.heard.live ≡ m.heard.live → n.heard.marked ≡ record { index = t.index; bid = bid } ∷ m.heard.marked
    → Grows m n × (was_heard n.heard.marked t.index bid ≡ true)
marked_grows m n t bid listings fenced live marked = (
  record {
    listings = listings;
    fenced = λ i h. ap (is_in i) fenced ∙ h;
    live = λ i b h. ap (λ rows. was_heard rows i b) live ∙ h;
    marked = λ i b h. ap (λ rows. was_heard rows i b) marked ∙ or_right ((t.index == i) && (bid == b)) (was_heard m.heard.marked i b) h;
  },
  ap (λ rows. was_heard rows t.index bid) marked ∙ heard_row t bid m.heard.marked,
)

live_grows : (m n : Manager) (t : Transfer) (bid : ℕ) → n.heard.listings ≡ m.heard.listings → n.heard.fenced ≡ m.heard.fenced → n.heard.live ≡ record { index = t.index; bid = bid } ∷ m.heard.live → n.heard.marked ≡ m.heard.marked
    → Grows m n × (was_heard n.heard.live t.index bid ≡ true)
live_grows m n t bid listings fenced live marked = (
  record {
    listings = listings;
    fenced = λ i h. ap (is_in i) fenced ∙ h;
    live = λ i b h. ap (λ rows. was_heard rows i b) live ∙ or_right ((t.index == i) && (bid == b)) (was_heard m.heard.live i b) h;
    marked = λ i b h. ap (λ rows. was_heard rows i b) marked ∙ h;
  },
  ap (λ rows. was_heard rows t.index bid) live ∙ heard_row t bid m.heard.live,
)

marked_by : (w u : World) (t : Transfer) (bid : ℕ) (answer : ToldAnswer) (e : Effect) → is_destination (transfers_of w.state.manager.lock) (dest_of t) ≡ true → IsUntroubled (replies.Heard answer) → MarkOutcome (answer_of answer) e
    → u.state.manager ≡ hear (Request.Mark (dest_of t) bid) (answer_of answer) w.state.manager → IsMarkDone answer × (Grows w.state.manager u.state.manager × (was_heard u.state.manager.heard.marked t.index bid ≡ true))
marked_by w u t bid answers.Done e dest calm out is = (
  tt,
  marked_grows w.state.manager u.state.manager t bid
      (ap (λ (m : Manager). m.heard.listings) is) (ap (λ (m : Manager). m.heard.fenced) is) (ap (λ (m : Manager). m.heard.live) is)
      (row_more (is_destination (transfers_of w.state.manager.lock) (dest_of t)) (record { index = t.index; bid = bid }) w.state.manager.heard.marked u.state.manager.heard.marked dest (ap (λ (m : Manager). m.heard.marked) is)),
)
marked_by w u t bid answers.Already e dest calm out is = (
  tt,
  marked_grows w.state.manager u.state.manager t bid
      (ap (λ (m : Manager). m.heard.listings) is) (ap (λ (m : Manager). m.heard.fenced) is) (ap (λ (m : Manager). m.heard.live) is)
      (row_more (is_destination (transfers_of w.state.manager.lock) (dest_of t)) (record { index = t.index; bid = bid }) w.state.manager.heard.marked u.state.manager.heard.marked dest (ap (λ (m : Manager). m.heard.marked) is)),
)
marked_by w u t bid answers.Fault e dest calm out is = absurd calm
marked_by w u t bid (answers.Full end) e dest calm out is = absurd calm
marked_by w u t bid answer e dest calm out is = absurd out

pub mark_goes : (s : Scene) (w u : World) (t : Transfer) (bid : ℕ) (home : Home) (reply : CodeReply) → Ground s → Standing s w → IsIn t s.lock.transfers → place_at home.unit home.disk ≡ dest_of t → w.state.units.is_made (dest_of t) ≡ true
    → is_in bid w.state.manager.asked ≡ true → IsDone s.origin w (events.Send (requests.Mark home.unit home.disk bid)) reply u → IsUntroubled reply → Marked s w u t bid reply
mark_goes s w u t bid home reply g h i at made asked done calm =
    let p = dest_of t in
    let r = Request.Mark p bid in
    let dest = dest_test s w t h i in
    let told : IsTold s.origin w u (requests.Mark home.unit home.disk bid) r reply =
    is_told s.origin w u (requests.Mark home.unit home.disk bid) r reply (ap (λ q. Request.Mark q bid) at) h.unshut (asked, inr dest) h.unplanned done in
    let f = dest_fresh s w t g h i in
    let out = mark_outcome (view_at w.state.broken w.state.units p) p bid (answer_of told.answer) told.effect f.unbroken (λ have. never_stale w p have f) made (λ number. dest_unfenced s w t number g h i) told.leaves.answers in
    let by = marked_by w u t bid told.answer told.effect dest (subst IsUntroubled told.is calm) out told.leaves.manager in
    record {
      answer = told.answer;
      is = told.is;
      done = by.0;
      wrote = record {
        stands = stands_on s w u r (answer_of told.answer) told.effect h (told.keeps h.kept) told.leaves (λ puts. refl) (spares_at_dest s w t r told.effect g i refl);
        grows = by.1.0;
        settled = by.1.1;
        made = λ q. still_made w u r (answer_of told.answer) told.effect q told.leaves;
      };
    }

-- ---- copies

abbrev CopyOutcome : Answer → Effect → Type 0
CopyOutcome Answer.Already Effect.Started = Unit {0}
CopyOutcome Answer.Deleted Effect.Started = Unit {0}
CopyOutcome Answer.Done Effect.Wrote = Unit {0}
CopyOutcome (Answer.Full end) effect = Unit {0}
CopyOutcome Answer.Fault effect = Unit {0}
CopyOutcome answer effect = ⊥

copy_outcome : (view : UnitView) (p : Place) (bid : ℕ) (a : Answer) (e : Effect) → view.is_broken ≡ false → ((have : ℕ) → IsStale view have → ⊥) → view.was_made view.epoch ≡ true → ((number : ℕ) → view.fence ≡ Some number → ⊥)
    → Answers view (Request.Copy p bid) a e → CopyOutcome a e
copy_outcome view p bid Answer.Broken Effect.Nothing unbroken fresh made unfenced h = absurd (contrary view.is_broken h unbroken)
copy_outcome view p bid (Answer.Stale have) Effect.Nothing unbroken fresh made unfenced h = absurd (fresh have h)
copy_outcome view p bid Answer.NoUnit Effect.Nothing unbroken fresh made unfenced h = absurd (contrary (view.was_made view.epoch) made h.1)
copy_outcome view p bid (Answer.Fenced number) Effect.Started unbroken fresh made unfenced h = absurd (unfenced number h.1.1)
copy_outcome view p bid Answer.Already Effect.Started unbroken fresh made unfenced h = tt
copy_outcome view p bid Answer.Deleted Effect.Started unbroken fresh made unfenced h = tt
copy_outcome view p bid Answer.Done Effect.Wrote unbroken fresh made unfenced h = tt
copy_outcome view p bid (Answer.Full end) e unbroken fresh made unfenced h = tt
copy_outcome view p bid Answer.Fault e unbroken fresh made unfenced h = tt
copy_outcome view p bid a e unbroken fresh made unfenced h = absurd h.1.1

abbrev pub IsCopyDone : ToldAnswer → Type 0
IsCopyDone answers.Done = Unit {0}
IsCopyDone answers.Already = Unit {0}
IsCopyDone answers.Deleted = Unit {0}
IsCopyDone answer = ⊥

pub record Copied (s : Scene) (w u : World) (t : Transfer) (bid : ℕ) (reply : CodeReply) : Type 0 where
  pub answer : ToldAnswer
  pub is : reply ≡ replies.Heard answer
  pub done : IsCopyDone answer
  pub wrote : Wrote s w u t bid Due.Copy

copied_by : (w u : World) (t : Transfer) (bid : ℕ) (answer : ToldAnswer) (e : Effect) → is_destination (transfers_of w.state.manager.lock) (dest_of t) ≡ true → IsUntroubled (replies.Heard answer) → CopyOutcome (answer_of answer) e
    → u.state.manager ≡ hear (Request.Copy (dest_of t) bid) (answer_of answer) w.state.manager
    → IsCopyDone answer × (Grows w.state.manager u.state.manager × (was_heard u.state.manager.heard.live t.index bid || was_heard u.state.manager.heard.marked t.index bid ≡ true))
copied_by w u t bid answers.Done e dest calm out is =
    let by = live_grows w.state.manager u.state.manager t bid (ap (λ (m : Manager). m.heard.listings) is) (ap (λ (m : Manager). m.heard.fenced) is)
    (row_more (is_destination (transfers_of w.state.manager.lock) (dest_of t)) (record { index = t.index; bid = bid }) w.state.manager.heard.live u.state.manager.heard.live dest (ap (λ (m : Manager). m.heard.live) is))
    (ap (λ (m : Manager). m.heard.marked) is) in
    (tt, (by.0, or_left (was_heard u.state.manager.heard.live t.index bid) (was_heard u.state.manager.heard.marked t.index bid) by.1))
copied_by w u t bid answers.Already e dest calm out is =
    let by = live_grows w.state.manager u.state.manager t bid (ap (λ (m : Manager). m.heard.listings) is) (ap (λ (m : Manager). m.heard.fenced) is)
    (row_more (is_destination (transfers_of w.state.manager.lock) (dest_of t)) (record { index = t.index; bid = bid }) w.state.manager.heard.live u.state.manager.heard.live dest (ap (λ (m : Manager). m.heard.live) is))
    (ap (λ (m : Manager). m.heard.marked) is) in
    (tt, (by.0, or_left (was_heard u.state.manager.heard.live t.index bid) (was_heard u.state.manager.heard.marked t.index bid) by.1))
copied_by w u t bid answers.Deleted e dest calm out is =
    let by = marked_grows w.state.manager u.state.manager t bid (ap (λ (m : Manager). m.heard.listings) is) (ap (λ (m : Manager). m.heard.fenced) is) (ap (λ (m : Manager). m.heard.live) is)
    (row_more (is_destination (transfers_of w.state.manager.lock) (dest_of t)) (record { index = t.index; bid = bid }) w.state.manager.heard.marked u.state.manager.heard.marked dest (ap (λ (m : Manager). m.heard.marked) is)) in
    (tt, (by.0, or_right (was_heard u.state.manager.heard.live t.index bid) (was_heard u.state.manager.heard.marked t.index bid) by.1))
copied_by w u t bid answers.Fault e dest calm out is = absurd calm
copied_by w u t bid (answers.Full end) e dest calm out is = absurd calm
copied_by w u t bid answer e dest calm out is = absurd out

pub copy_goes : (s : Scene) (w u : World) (t : Transfer) (bid size : ℕ) (bytes : List ℕ) (home : Home) (reply : CodeReply) → Ground s → Standing s w → IsIn t s.lock.transfers → place_at home.unit home.disk ≡ dest_of t
    → w.state.units.is_made (dest_of t) ≡ true → is_begun (s.puts.status bid) ≡ true → IsDone s.origin w (events.Send (requests.Copy home.unit home.disk bid size bytes)) reply u → IsUntroubled reply → Copied s w u t bid reply
copy_goes s w u t bid size bytes home reply g h i at made begun done calm =
    let p = dest_of t in
    let r = Request.Copy p bid in
    let dest = dest_test s w t h i in
    let may = ap (λ (puts : Puts). is_begun (puts.status bid)) h.puts_are ∙ begun in
    let told : IsTold s.origin w u (requests.Copy home.unit home.disk bid size bytes) r reply =
    is_told s.origin w u (requests.Copy home.unit home.disk bid size bytes) r reply (ap (λ q. Request.Copy q bid) at) h.unshut (may, inr dest) h.unplanned done in
    let f = dest_fresh s w t g h i in
    let out = copy_outcome (view_at w.state.broken w.state.units p) p bid (answer_of told.answer) told.effect f.unbroken (λ have. never_stale w p have f) made (λ number. dest_unfenced s w t number g h i) told.leaves.answers in
    let by = copied_by w u t bid told.answer told.effect dest (subst IsUntroubled told.is calm) out told.leaves.manager in
    record {
      answer = told.answer;
      is = told.is;
      done = by.0;
      wrote = record {
        stands = stands_on s w u r (answer_of told.answer) told.effect h (told.keeps h.kept) told.leaves (λ puts. refl) (spares_at_dest s w t r told.effect g i refl);
        grows = by.1.0;
        settled = by.1.1;
        made = λ q. still_made w u r (answer_of told.answer) told.effect q told.leaves;
      };
    }

-- ---- what licenses them

some_found : (n : ℕ) (f : ℕ → Bool) → some_below n f ≡ true → (i : ℕ) × (i < n) × (f i ≡ true)
some_found zero f h = absurd (cc)
some_found (suc n) f h = elim (either (f n)) [
  | inl here ↦ (n, omega arith, here)
  | inr none ↦ let rest = some_found n f (sym (ap (λ b. b || some_below n f) none) ∙ h) in (rest.0, omega (arith, rest.1), rest.2)
]

marks : (a b : Bool) → cond a Due.Mark (cond b Due.Copy Due.Left) ≡ Due.Mark → a ≡ true
marks true b h = refl
marks false true h = absurd (cc)
marks false false h = absurd (cc)

copies : (a b : Bool) → cond a Due.Mark (cond b Due.Copy Due.Left) ≡ Due.Copy → b ≡ true
copies true b h = absurd (cc)
copies false true h = refl
copies false false h = absurd (cc)

deleted_asked : (begun asked committed : Bool) (row : Option RowState) → HasCause begun asked committed row → (committed ≡ true → asked ≡ true) → is_deleted row ≡ true → asked ≡ true
deleted_asked begun asked committed (Some RowState.Marked) cause more h = cause
deleted_asked begun asked committed (Some RowState.Gone) cause more h = more cause
deleted_asked begun asked committed (Some RowState.Live) cause more h = absurd (cc)
deleted_asked begun asked committed None cause more h = absurd (cc)

live_begun : (begun asked committed : Bool) (row : Option RowState) → HasCause begun asked committed row → is_live row ≡ true → begun ≡ true
live_begun begun asked committed (Some RowState.Live) cause h = cause
live_begun begun asked committed (Some RowState.Marked) cause h = absurd (cc)
live_begun begun asked committed (Some RowState.Gone) cause h = absurd (cc)
live_begun begun asked committed None cause h = absurd (cc)

-- the delete of a blob that gets a mark was asked
pub mark_asked : (s : Scene) (w : World) (bid : ℕ) → Standing s w → due_by s bid ≡ Due.Mark → is_in bid w.state.manager.asked ≡ true
mark_asked s w bid h due =
    let found = some_found (total_of s) (bears s bid) (marks (some_below (total_of s) (bears s bid)) (nat_le (data_count s.origin.mode) (count_below (total_of s) (holds s bid))) due) in
    let i = found.0 in
    let deleted = ap is_deleted (h.rows i found.1 bid) ∙ and_right (not (s.broken (home_at s.homes i).disk)) (is_deleted (s.row i bid)) found.2 in
    deleted_asked (is_begun (w.state.puts.status bid)) (is_in bid w.state.manager.asked) (is_in bid w.state.manager.committed) (w.state.units.row (current s.homes i) bid)
    (h.kept.provenance.rows (current s.homes i) bid) (h.kept.authority.requests.committed_asked bid) deleted

-- so many units hold a blob that gets a copy
pub copy_held : (s : Scene) (bid : ℕ) → due_by s bid ≡ Due.Copy → data_count s.origin.mode ≤ count_below (total_of s) (holds s bid)
copy_held s bid due =
    leb-true (data_count s.origin.mode) (count_below (total_of s) (holds s bid))
    (copies (some_below (total_of s) (bears s bid)) (nat_le (data_count s.origin.mode) (count_below (total_of s) (holds s bid))) due)

-- and it was begun
pub copy_begun : (s : Scene) (w : World) (bid : ℕ) → Standing s w → due_by s bid ≡ Due.Copy → is_begun (s.puts.status bid) ≡ true
copy_begun s w bid h due =
    let many = copy_held s bid due in
    let some = (sound_numbers s.origin.mode).some_data in
    let found = some_found (total_of s) (holds s bid) (counted_some (total_of s) (holds s bid) (omega (arith, many, some))) in
    let i = found.0 in
    let live = ap is_live (h.rows i found.1 bid) ∙ and_right (not (s.broken (home_at s.homes i).disk)) (is_live (s.row i bid)) found.2 in
    ap (λ (puts : Puts). is_begun (puts.status bid)) (sym h.puts_are)
    ∙ live_begun (is_begun (w.state.puts.status bid)) (is_in bid w.state.manager.asked) (is_in bid w.state.manager.committed) (w.state.units.row (current s.homes i) bid)
    (h.kept.provenance.rows (current s.homes i) bid) live
