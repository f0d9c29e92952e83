-- Answers of which a request hears nothing.
use Rattle.std.proofs.Common.{◌≡◌, ◌⊎◌, inl, inr, refl, ap, sym, subst, ℕ, false, cond, List}
use Rattle.unit_id.specs.Messages.{answer_of}
use Rattle.unit_id.specs.Place.{Place}
use Rattle.unit_id.specs.Request.{Request}
use Rattle.unit_id.specs.declared.answer.Answer as answered
use Rattle.unit_id.specs.declared.answer.Answer.TheVariants as answers
use Rattle.volume_entry.specs.Manager.{Manager, has_number, transfers_of}
use Rattle.volume_entry.specs.ManagerStep.{hear, hear_listing}
use Rattle.volume_entry.specs.HeardCalls.{is_listing}

pub copy_other : (place : Place) (bid : ℕ) (m : Manager) (a : answered.Answer) → (a ≡ answers.Done → ⊥) → (a ≡ answers.Already → ⊥) → (a ≡ answers.Deleted → ⊥) → hear (Request.Copy place bid) (answer_of a) m ≡ m
copy_other place bid m answers.Done no_done no_already no_deleted = absurd (no_done refl)
copy_other place bid m answers.Already no_done no_already no_deleted = absurd (no_already refl)
copy_other place bid m (answers.Live blob_size bytes) no_done no_already no_deleted = refl
copy_other place bid m answers.Marked no_done no_already no_deleted = refl
copy_other place bid m answers.Gone no_done no_already no_deleted = refl
copy_other place bid m answers.Absent no_done no_already no_deleted = refl
copy_other place bid m (answers.Listing said live marked) no_done no_already no_deleted = refl
copy_other place bid m (answers.Stale have) no_done no_already no_deleted = refl
copy_other place bid m answers.NoUnit no_done no_already no_deleted = refl
copy_other place bid m (answers.Fenced other) no_done no_already no_deleted = refl
copy_other place bid m answers.Deleted no_done no_already no_deleted = absurd (no_deleted refl)
copy_other place bid m answers.NotMarked no_done no_already no_deleted = refl
copy_other place bid m answers.Broken no_done no_already no_deleted = refl
copy_other place bid m (answers.Full end) no_done no_already no_deleted = refl
copy_other place bid m answers.Fault no_done no_already no_deleted = refl
copy_other place bid m (answers.Damaged kept computed) no_done no_already no_deleted = refl
copy_other place bid m (answers.Spoiled spoiled) no_done no_already no_deleted = refl

pub mark_other : (place : Place) (bid : ℕ) (m : Manager) (a : answered.Answer) → (a ≡ answers.Done → ⊥) → (a ≡ answers.Already → ⊥) → hear (Request.Mark place bid) (answer_of a) m ≡ m
mark_other place bid m answers.Done no_done no_already = absurd (no_done refl)
mark_other place bid m answers.Already no_done no_already = absurd (no_already refl)
mark_other place bid m (answers.Live blob_size bytes) no_done no_already = refl
mark_other place bid m answers.Marked no_done no_already = refl
mark_other place bid m answers.Gone no_done no_already = refl
mark_other place bid m answers.Absent no_done no_already = refl
mark_other place bid m (answers.Listing said live marked) no_done no_already = refl
mark_other place bid m (answers.Stale have) no_done no_already = refl
mark_other place bid m answers.NoUnit no_done no_already = refl
mark_other place bid m (answers.Fenced other) no_done no_already = refl
mark_other place bid m answers.Deleted no_done no_already = refl
mark_other place bid m answers.NotMarked no_done no_already = refl
mark_other place bid m answers.Broken no_done no_already = refl
mark_other place bid m (answers.Full end) no_done no_already = refl
mark_other place bid m answers.Fault no_done no_already = refl
mark_other place bid m (answers.Damaged kept computed) no_done no_already = refl
mark_other place bid m (answers.Spoiled spoiled) no_done no_already = refl

pub fence_other : (place : Place) (number : ℕ) (m : Manager) (a : answered.Answer) → (a ≡ answers.Done → ⊥) → hear (Request.Fence place number) (answer_of a) m ≡ m
fence_other place number m answers.Done no_done = absurd (no_done refl)
fence_other place number m answers.Already no_done = refl
fence_other place number m (answers.Live blob_size bytes) no_done = refl
fence_other place number m answers.Marked no_done = refl
fence_other place number m answers.Gone no_done = refl
fence_other place number m answers.Absent no_done = refl
fence_other place number m (answers.Listing said live marked) no_done = refl
fence_other place number m (answers.Stale have) no_done = refl
fence_other place number m answers.NoUnit no_done = refl
fence_other place number m (answers.Fenced other) no_done = refl
fence_other place number m answers.Deleted no_done = refl
fence_other place number m answers.NotMarked no_done = refl
fence_other place number m answers.Broken no_done = refl
fence_other place number m (answers.Full end) no_done = refl
fence_other place number m answers.Fault no_done = refl
fence_other place number m (answers.Damaged kept computed) no_done = refl
fence_other place number m (answers.Spoiled spoiled) no_done = refl

pub release_other : (place : Place) (m : Manager) (a : answered.Answer) → (a ≡ answers.Done → ⊥) → ((have : ℕ) → a ≡ answers.Stale have → ⊥) → hear (Request.Release place) (answer_of a) m ≡ m
release_other place m answers.Done no_done no_stale = absurd (no_done refl)
release_other place m answers.Already no_done no_stale = refl
release_other place m (answers.Live blob_size bytes) no_done no_stale = refl
release_other place m answers.Marked no_done no_stale = refl
release_other place m answers.Gone no_done no_stale = refl
release_other place m answers.Absent no_done no_stale = refl
release_other place m (answers.Listing said live marked) no_done no_stale = refl
release_other place m (answers.Stale have) no_done no_stale = absurd (no_stale have refl)
release_other place m answers.NoUnit no_done no_stale = refl
release_other place m (answers.Fenced other) no_done no_stale = refl
release_other place m answers.Deleted no_done no_stale = refl
release_other place m answers.NotMarked no_done no_stale = refl
release_other place m answers.Broken no_done no_stale = refl
release_other place m (answers.Full end) no_done no_stale = refl
release_other place m answers.Fault no_done no_stale = refl
release_other place m (answers.Damaged kept computed) no_done no_stale = refl
release_other place m (answers.Spoiled spoiled) no_done no_stale = refl

pub list_other : (place : Place) (number : ℕ) (m : Manager) (a : answered.Answer) → is_listing (answer_of a) ≡ false → hear (Request.List place number) (answer_of a) m ≡ m
list_other place number m answers.Done h = refl
list_other place number m answers.Already h = refl
list_other place number m (answers.Live blob_size bytes) h = refl
list_other place number m answers.Marked h = refl
list_other place number m answers.Gone h = refl
list_other place number m answers.Absent h = refl
list_other place number m (answers.Listing said live marked) h = cc
list_other place number m (answers.Stale have) h = refl
list_other place number m answers.NoUnit h = refl
list_other place number m (answers.Fenced other) h = refl
list_other place number m answers.Deleted h = refl
list_other place number m answers.NotMarked h = refl
list_other place number m answers.Broken h = refl
list_other place number m (answers.Full end) h = refl
list_other place number m answers.Fault h = refl
list_other place number m (answers.Damaged kept computed) h = refl
list_other place number m (answers.Spoiled spoiled) h = refl

-- a listing under another number is passed over
pub list_unnumbered : (place : Place) (number : ℕ) (m : Manager) (a : answered.Answer) → has_number m.lock number ≡ false → hear (Request.List place number) (answer_of a) m ≡ m
list_unnumbered place number m answers.Done h = refl
list_unnumbered place number m answers.Already h = refl
list_unnumbered place number m (answers.Live blob_size bytes) h = refl
list_unnumbered place number m answers.Marked h = refl
list_unnumbered place number m answers.Gone h = refl
list_unnumbered place number m answers.Absent h = refl
list_unnumbered place number m (answers.Listing said live marked) h = ap (λ b. record m { heard = cond b (hear_listing (transfers_of m.lock) place (record { live = live; marked = marked }) m.heard) m.heard }) h
list_unnumbered place number m (answers.Stale have) h = refl
list_unnumbered place number m answers.NoUnit h = refl
list_unnumbered place number m (answers.Fenced other) h = refl
list_unnumbered place number m answers.Deleted h = refl
list_unnumbered place number m answers.NotMarked h = refl
list_unnumbered place number m answers.Broken h = refl
list_unnumbered place number m (answers.Full end) h = refl
list_unnumbered place number m answers.Fault h = refl
list_unnumbered place number m (answers.Damaged kept computed) h = refl
list_unnumbered place number m (answers.Spoiled spoiled) h = refl

pub no_listing : (a : answered.Answer) → ((said : ℕ) (live marked : List ℕ) → a ≡ answers.Listing said live marked → ⊥) → is_listing (answer_of a) ≡ false
no_listing answers.Done h = refl
no_listing answers.Already h = refl
no_listing (answers.Live blob_size bytes) h = refl
no_listing answers.Marked h = refl
no_listing answers.Gone h = refl
no_listing answers.Absent h = refl
no_listing (answers.Listing said live marked) h = absurd (h said live marked refl)
no_listing (answers.Stale have) h = refl
no_listing answers.NoUnit h = refl
no_listing (answers.Fenced other) h = refl
no_listing answers.Deleted h = refl
no_listing answers.NotMarked h = refl
no_listing answers.Broken h = refl
no_listing (answers.Full end) h = refl
no_listing answers.Fault h = refl
no_listing (answers.Damaged kept computed) h = refl
no_listing (answers.Spoiled spoiled) h = refl

-- one of two answers
pub done_or : (F : answered.Answer → Type 0) (a : answered.Answer) → (a ≡ answers.Done) ⊎ (a ≡ answers.Already) → F answers.Done → F answers.Already → F a
done_or F a (inl e) done already = subst F (sym e) done
done_or F a (inr e) done already = subst F (sym e) already

pub done_or_stale : (F : answered.Answer → Type 0) (a : answered.Answer) → (a ≡ answers.Done) ⊎ ((have : ℕ) × (a ≡ answers.Stale have)) → F answers.Done → ((have : ℕ) → F (answers.Stale have)) → F a
done_or_stale F a (inl e) done stale = subst F (sym e) done
done_or_stale F a (inr h) done stale = subst F (sym h.1) (stale h.0)
