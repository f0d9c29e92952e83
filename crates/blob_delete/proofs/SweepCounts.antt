-- How many units have let their shards go, at each point of a sweep.
use Rattle.std.proofs.Common.{◌≡◌, ◌↔◌, inl, inr, ℕ, suc, ◌+◌, ◌<◌, ◌≤◌, Bool, true, false, cond, not, List, [], ◌∷◌, ◌++◌, length, Option, Some, None, Result, Ok, Err, refl, sym, ◌∙◌, subst, length-append, arith}
use Rattle.std.proofs.lemmas.Bool.Decides.{eqb_tells}
use Rattle.unit_id.specs.declared.homes.Home.{Home}
use Rattle.volume_entry.specs.declared.view.LockView.{LockView}
use Rattle.volume_world.specs.declared.event.Event.{Event}
use Rattle.volume_world.specs.declared.reply.Reply.{Reply}
use Rattle.volume_world.specs.declared.reply.Reply.TheVariants as replies
use Rattle.volume_world.specs.Way.{Origin, shape_of}
use Rattle.volume_world.specs.Replying.{MayReply, RepliesLook}
use Rattle.volume_world.specs.Course.{Part}
use Rattle.volume_world.specs.Call.{Next}
use Rattle.volume_world.specs.Progress.{AllFit, Comes}
use Rattle.blob_delete.specs.declared.sweeping.Swept.{Swept}
use Rattle.blob_delete.specs.declared.sweeping.Swept.TheVariants as swept
use Rattle.blob_delete.specs.declared.fault.DeleteFault.{DeleteFault}
use Rattle.blob_delete.specs.SweepCall.{SweepStage, SweepNext, has_done, unbroken, marking, freeing, unless_failed, after_view, after_look, after_send, after_mark, after_commit, after_free, sweep_asks, sweep_after, sweep_call}
use Rattle.blob_delete.specs.SweepParts.{IsOpen}
use Rattle.blob_delete.specs.Sweeps.{has_freed, freed_count}

-- so many units of all of them have let their shards go, and no more than those that are left still may
abbrev pub IsCounted : ℕ → ℕ → SweepNext → Type 0
IsCounted all n (Next.Go SweepStage.Looking) = n ≡ 0
IsCounted all n (Next.Go (SweepStage.Marking total marked home homes)) = (n ≡ 0) × (total ≡ all) × (length marked + suc (length homes) ≤ all)
IsCounted all n (Next.Go (SweepStage.Committing total marked)) = (n ≡ 0) × (total ≡ all) × (length marked ≤ all)
IsCounted all n (Next.Go (SweepStage.Freeing total freed home homes)) = (n ≡ freed) × (total ≡ all) × (freed + suc (length homes) ≤ all)
IsCounted all n (Next.Over (Ok swept.Freed)) = n ≡ all
IsCounted all n (Next.Over answer) = n < all
IsCounted all n Next.Never = n < all

counted_marking : (all n total : ℕ) (marked homes : List Home) → n ≡ 0 → total ≡ all → length marked + length homes ≤ all → IsCounted all n (Next.Go (marking total marked homes))
counted_marking all n total marked [] z t h = (z, t, omega arith)
counted_marking all n total marked (home ∷ homes) z t h = (z, t, h)

counted_end : (all n total freed : ℕ) → n ≡ freed → total ≡ all → freed ≤ all → IsCounted all n (freeing total freed [])
counted_end all n total freed z t h = elim (eqb_tells freed total) [
  | inl e ↦ subst (λ (b : Bool). IsCounted all n (Next.Over (Ok (cond b swept.Freed swept.Committed)))) (sym e.0) (z ∙ e.1 ∙ t)
  | inr e ↦ subst (λ (b : Bool). IsCounted all n (Next.Over (Ok (cond b swept.Freed swept.Committed)))) (sym e.0) (let other = e.1 in omega arith)
]

counted_freeing : (all n total freed : ℕ) (homes : List Home) → n ≡ freed → total ≡ all → freed + length homes ≤ all → IsCounted all n (freeing total freed homes)
counted_freeing all n total freed [] z t h = counted_end all n total freed z t (omega arith)
counted_freeing all n total freed (home ∷ homes) z t h = (z, t, h)

counted_failed : (all n : ℕ) (reply : Reply) → n < all → IsCounted all n (unless_failed reply)
counted_failed all n replies.Fault h = h
counted_failed all n (replies.Spoiled place) h = h
counted_failed all n other h = h

few_unbroken : (homes : List Home) → length (unbroken homes) ≤ length homes
few_unbroken [] = omega arith
few_unbroken (home ∷ homes) = go (not home.broken) (few_unbroken homes) where
  go : (b : Bool) → length (unbroken homes) ≤ length homes → length (cond b (home ∷ unbroken homes) (unbroken homes)) ≤ suc (length homes)
  go true h = omega arith
  go false h = omega arith

counted_view : (all n : ℕ) (held : Option LockView) (units : List Home) → n ≡ 0 → 1 ≤ all → length units ≡ all → IsCounted all n (after_view held units)
counted_view all n (Some lock) units z some is = omega arith
counted_view all n None units z some is = let few = few_unbroken units in counted_marking all n (length units) [] (unbroken units) z is (omega arith)

counted_look : (origin : Origin) (all n : ℕ) (reply : Reply) → n ≡ 0 → 1 ≤ all → all ≡ (shape_of origin).total → RepliesLook origin reply → IsCounted all n (after_look reply)
counted_look origin all n (replies.Seen view) z some is fits = counted_view all n view.held view.units z some (fits.count ∙ sym is)
counted_look origin all n other z some is fits = counted_failed all n other (omega arith)

counted_mark : (all n total : ℕ) (marked : List Home) (home : Home) (homes : List Home) (done : Bool) → n ≡ 0 → total ≡ all → length marked + suc (length homes) ≤ all
    → IsCounted all n (after_mark total marked home homes done)
counted_mark all n total marked home homes true z t h =
    let more : length (marked ++ home ∷ []) ≡ length marked + 1 = length-append marked (home ∷ []) in
    counted_marking all n total (marked ++ home ∷ []) homes z t (omega arith)
counted_mark all n total marked home homes false z t h = counted_marking all n total marked homes z t (omega arith)

counted_marked : (all n total : ℕ) (marked : List Home) (home : Home) (homes : List Home) (reply : Reply) → n ≡ 0 → total ≡ all → length marked + suc (length homes) ≤ all
    → IsCounted all n (after_send (after_mark total marked home homes) reply)
counted_marked all n total marked home homes (replies.Heard answer) z t h = counted_mark all n total marked home homes (has_done answer) z t h
counted_marked all n total marked home homes replies.Unheard z t h = counted_mark all n total marked home homes false z t h
counted_marked all n total marked home homes replies.Barred z t h = counted_mark all n total marked home homes false z t h
counted_marked all n total marked home homes other z t h = counted_failed all n other (omega arith)

counted_commit : (all n total : ℕ) (marked : List Home) (reply : Reply) → n ≡ 0 → 1 ≤ all → total ≡ all → length marked ≤ all → IsCounted all n (after_commit total marked reply)
counted_commit all n total marked replies.Done z some t h = counted_freeing all n total 0 marked z t (omega arith)
counted_commit all n total marked replies.Already z some t h = counted_freeing all n total 0 marked z t (omega arith)
counted_commit all n total marked (replies.TooFewMarks have) z some t h = omega arith
counted_commit all n total marked (replies.Locked task) z some t h = omega arith
counted_commit all n total marked replies.NotAsked z some t h = omega arith
counted_commit all n total marked other z some t h = counted_failed all n other (omega arith)

counted_free : (all n total freed : ℕ) (homes : List Home) (done : Bool) → n ≡ freed → total ≡ all → freed + suc (length homes) ≤ all → IsCounted all (n + cond done 1 0) (after_free total freed homes done)
counted_free all n total freed homes true z t h = counted_freeing all (n + 1) total (freed + 1) homes (omega arith) t (omega arith)
counted_free all n total freed homes false z t h = counted_freeing all (n + 0) total freed homes (omega arith) t (omega arith)

counted_freed : (all n total freed : ℕ) (home : Home) (homes : List Home) (bid : ℕ) (reply : Reply) → n ≡ freed → total ≡ all → freed + suc (length homes) ≤ all
    → IsCounted all (n + cond (has_freed (Part.Asking (sweep_asks bid (SweepStage.Freeing total freed home homes)) reply)) 1 0) (after_send (after_free total freed homes) reply)
counted_freed all n total freed home homes bid (replies.Heard answer) z t h = counted_free all n total freed homes (has_done answer) z t h
counted_freed all n total freed home homes bid replies.Unheard z t h = counted_free all n total freed homes false z t h
counted_freed all n total freed home homes bid replies.Barred z t h = counted_free all n total freed homes false z t h
counted_freed all n total freed home homes bid other z t h = counted_failed all (n + 0) other (omega arith)

counted_step : (origin : Origin) (bid all n : ℕ) (stage : SweepStage) (reply : Reply) → 1 ≤ all → all ≡ (shape_of origin).total → MayReply origin (sweep_asks bid stage) reply → IsCounted all n (Next.Go stage)
    → IsCounted all (n + cond (has_freed (Part.Asking (sweep_asks bid stage) reply)) 1 0) (sweep_after stage reply)
counted_step origin bid all n SweepStage.Looking reply some is fits h = counted_look origin all (n + 0) reply (omega arith) some is fits
counted_step origin bid all n (SweepStage.Marking total marked home homes) reply some is fits h = counted_marked all (n + 0) total marked home homes reply (let z = h.0 in omega arith) h.1 h.2
counted_step origin bid all n (SweepStage.Committing total marked) reply some is fits h = counted_commit all (n + 0) total marked reply (let z = h.0 in omega arith) some h.1 h.2
counted_step origin bid all n (SweepStage.Freeing total freed home homes) reply some is fits h = counted_freed all n total freed home homes bid reply h.0 h.1 h.2

pub counted_as : (all m n : ℕ) (next : SweepNext) → m ≡ n → IsCounted all m next → IsCounted all n next
counted_as all m n next e h = subst (λ (k : ℕ). IsCounted all k next) e h

-- over a whole stretch
pub counted_all : (origin : Origin) (bid all n : ℕ) (parts : List Part) (from to : SweepNext) → 1 ≤ all → all ≡ (shape_of origin).total → AllFit origin parts → Comes (sweep_call bid) from parts to
    → IsCounted all n from → IsCounted all (n + freed_count parts) to
counted_all origin bid all n [] from to some is fits comes h = counted_as all n (n + 0) to (omega arith) (subst (λ (x : SweepNext). IsCounted all n x) (sym comes) h)
counted_all origin bid all n (Part.Beside trace ∷ parts) from to some is fits comes h =
    counted_as all (n + freed_count parts) (n + (0 + freed_count parts)) to (omega arith) (counted_all origin bid all n parts from to some is fits comes h)
counted_all origin bid all n (Part.Settling trace ∷ parts) from to some is fits comes h =
    counted_as all (n + freed_count parts) (n + (0 + freed_count parts)) to (omega arith) (counted_all origin bid all n parts from to some is fits comes h)
counted_all origin bid all n (Part.Asking event reply ∷ parts) (Next.Go stage) to some is fits comes h =
    let asked : event ≡ sweep_asks bid stage = comes.0 in
    let here : IsCounted all (n + cond (has_freed (Part.Asking event reply)) 1 0) (sweep_after stage reply) =
    subst (λ (e : Event). IsCounted all (n + cond (has_freed (Part.Asking e reply)) 1 0) (sweep_after stage reply)) (sym asked)
    (counted_step origin bid all n stage reply some is (subst (λ (e : Event). MayReply origin e reply) asked fits.0) h) in
    let one = cond (has_freed (Part.Asking event reply)) 1 0 in
    counted_as all ((n + one) + freed_count parts) (n + (one + freed_count parts)) to (omega arith)
    (counted_all origin bid all (n + one) parts (sweep_after stage reply) to some is fits.1 comes.1 here)
counted_all origin bid all n (Part.Asking event reply ∷ parts) (Next.Over given) to some is fits comes h = absurd comes
counted_all origin bid all n (Part.Asking event reply ∷ parts) Next.Never to some is fits comes h = absurd comes

-- the answer says that all is freed exactly where all units let their shards go
pub counted_answer : (all n : ℕ) (result : Result Swept DeleteFault) → IsCounted all n (Next.Over result) → (result ≡ Ok swept.Freed) ↔ (n ≡ all)
counted_answer all n (Ok swept.Freed) h = (λ e. h, λ e. refl)
counted_answer all n (Ok swept.Committed) h = (λ e. absurd (cc), λ e. absurd (omega arith))
counted_answer all n (Ok (swept.Waits marks)) h = (λ e. absurd (cc), λ e. absurd (omega arith))
counted_answer all n (Err why) h = (λ e. absurd (cc), λ e. absurd (omega arith))

-- a sweep that isn't at its end has freed fewer
pub counted_open : (all n : ℕ) (to : SweepNext) → IsOpen to → 1 ≤ all → IsCounted all n to → n ≡ all → ⊥
counted_open all n (Next.Go SweepStage.Looking) still some h e = omega arith
counted_open all n (Next.Go (SweepStage.Marking total marked home homes)) still some h e = let z = h.0 in omega arith
counted_open all n (Next.Go (SweepStage.Committing total marked)) still some h e = let z = h.0 in omega arith
counted_open all n (Next.Go (SweepStage.Freeing total freed home homes)) still some h e = let z = h.0 in let less = h.2 in omega arith
counted_open all n (Next.Over (Ok given)) still some h e = absurd still
counted_open all n (Next.Over (Err why)) still some h e = omega arith
counted_open all n Next.Never still some h e = omega arith
