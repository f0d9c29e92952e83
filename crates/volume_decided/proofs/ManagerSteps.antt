-- The steps of the manager are decided by its part, the clock and broken disks, where its log doesn't fail.
use Rattle.std.proofs.Common.{◌≡◌, ◌∙◌, sym, ap, refl, ℕ, ◌+◌, ◌<◌, inl, inr, ◌⊎◌, Bool, true, false, List, Option, Some, None}
use Rattle.std.proofs.lemmas.Bool.{eqb-true, cases_order}
use Rattle.unit_id.specs.declared.targets.Target.{Target}
use Rattle.code_mode.specs.VolumeShape.{VolumeShape, lease_length}
use Rattle.volume_entry.specs.Manager.{Lock, Manager, ManagerRecord, written, transfers_of, has_number}
use Rattle.volume_entry.specs.ManagerStep.{GrantsLease, Locks, Retargets, Swaps, Unlocks, Asks, Commits, AreAllSettled, IsFirstUnsettled, lease_refusal, lock_refusal, lock_record, retarget_refusal, retarget_record, swap_refusal, unlock_refusal, ask_refusal, commit_refusal}
use Rattle.volume_entry.specs.Reply.{Reply}

-- no fault
abbrev pub is_sound : Reply → Bool
is_sound Reply.Fault = false
is_sound reply = true

-- ---- a refusal, or a reply of its own

-- the first refusal, or else this reply
abbrev pub or_own : Option Reply → Reply → Reply
or_own None own = own
or_own (Some refusal) own = refusal

-- nothing changes by a refusal
abbrev pub or_after : {A : Type 0} → Option Reply → A → A → A
or_after None before after = after
or_after (Some refusal) before after = before

-- the first refusal with nothing changed, or else this reply with this behind it
pub record IsBy {A : Type 0} (refusal : Option Reply) (own : Reply) (before after : A) (given : Reply) (left : A) : Type 0 where
  pub reply : given ≡ or_own refusal own
  pub new : left ≡ or_after refusal before after

pub by_own : {A : Type 0} (refusal : Option Reply) (own : Reply) (before after : A) (given : Reply) (new : A) → refusal ≡ None → given ≡ own → new ≡ after → IsBy refusal own before after given new
by_own refusal own before after given new none is then =
    record { reply = is ∙ ap (λ o. or_own o own) (sym none); new = then ∙ ap (λ o. or_after o before after) (sym none) }

pub by_refusal : {A : Type 0} (refusal : Option Reply) (own : Reply) (before after : A) (given : Reply) (new : A) → refusal ≡ Some given → new ≡ before → IsBy refusal own before after given new
by_refusal refusal own before after given new some same =
    record { reply = ap (λ o. or_own o own) (sym some); new = same ∙ ap (λ o. or_after o before after) (sym some) }

pub both_by : {A : Type 0} (refusal : Option Reply) (own : Reply) (before after : A) (a b : Reply) (n o : A) → IsBy refusal own before after a n → IsBy refusal own before after b o → (a ≡ b) × (n ≡ o)
both_by refusal own before after a b n o h k = (h.reply ∙ sym k.reply, h.new ∙ sym k.new)

-- ---- steps of one outcome

lease_is : (time : ℕ) (m : Manager) (r : Reply) (n : Manager) → GrantsLease time m r n → is_sound r ≡ true → IsBy (lease_refusal m) (Reply.LeaseTo (time + lease_length)) m (written (ManagerRecord.Leased (time + lease_length)) m) r n
lease_is time m Reply.Fault n h sound = cc
lease_is time m (Reply.LeaseTo end) n h sound = by_own _ _ _ _ _ _ h.0 (ap Reply.LeaseTo h.1) (h.2 ∙ ap (λ e. written (ManagerRecord.Leased e) m) h.1)
lease_is time m r n h sound = by_refusal _ _ _ _ _ _ h.0 h.1

pub lease_decided : (time : ℕ) (m : Manager) (r q : Reply) (n o : Manager) → GrantsLease time m r n → GrantsLease time m q o → is_sound r ≡ true → is_sound q ≡ true → (r ≡ q) × (n ≡ o)
lease_decided time m r q n o h k a b = both_by _ _ _ _ r q n o (lease_is time m r n h a) (lease_is time m q o k b)

lock_is : (broken : ℕ → Bool) (time task : ℕ) (targets : List Target) (m : Manager) (r : Reply) (n : Manager) → Locks broken time task targets m r n → is_sound r ≡ true → IsBy (lock_refusal broken time targets m) (Reply.Granted (m.granted + 1) (transfers_of (written (lock_record task targets m) m).lock)) m (written (lock_record task targets m) m) r n
lock_is broken time task targets m Reply.Fault n h sound = cc
lock_is broken time task targets m (Reply.Granted number transfers) n h sound = by_own _ _ _ _ _ _ h.0 (λ i. Reply.Granted (h.1 i) ((h.2 ∙ ap (λ (p : Manager). transfers_of p.lock) h.3) i)) h.3
lock_is broken time task targets m r n h sound = by_refusal _ _ _ _ _ _ h.0 h.1

pub lock_decided : (broken : ℕ → Bool) (time task : ℕ) (targets : List Target) (m : Manager) (r q : Reply) (n o : Manager) → Locks broken time task targets m r n → Locks broken time task targets m q o → is_sound r ≡ true → is_sound q ≡ true → (r ≡ q) × (n ≡ o)
lock_decided broken time task targets m r q n o h k a b = both_by _ _ _ _ r q n o (lock_is broken time task targets m r n h a) (lock_is broken time task targets m q o k b)

-- the number of a lock
abbrev number_of : Option Lock → ℕ
number_of None = 0
number_of (Some lock) = lock.number

number_is : (lock : Option Lock) (number : ℕ) → has_number lock number ≡ true → number ≡ number_of lock
number_is None number h = cc
number_is (Some lock) number h = sym (eqb-true lock.number number h)

retarget_is : (broken : ℕ → Bool) (task index disk : ℕ) (m : Manager) (r : Reply) (n : Manager) → Retargets broken task index disk m r n → is_sound r ≡ true → IsBy (retarget_refusal broken task index disk m) (Reply.Granted (number_of m.lock) (transfers_of (written (retarget_record index disk m) m).lock)) m (written (retarget_record index disk m) m) r n
retarget_is broken task index disk m Reply.Fault n h sound = cc
retarget_is broken task index disk m (Reply.Granted number transfers) n h sound = by_own _ _ _ _ _ _ h.0 (λ i. Reply.Granted (number_is m.lock number h.1 i) ((h.2 ∙ ap (λ (p : Manager). transfers_of p.lock) h.3) i)) h.3
retarget_is broken task index disk m r n h sound = by_refusal _ _ _ _ _ _ h.0 h.1

pub retarget_decided : (broken : ℕ → Bool) (task index disk : ℕ) (m : Manager) (r q : Reply) (n o : Manager) → Retargets broken task index disk m r n → Retargets broken task index disk m q o → is_sound r ≡ true → is_sound q ≡ true → (r ≡ q) × (n ≡ o)
retarget_decided broken task index disk m r q n o h k a b = both_by _ _ _ _ r q n o (retarget_is broken task index disk m r n h a) (retarget_is broken task index disk m q o k b)

unlock_is : (broken : ℕ → Bool) (task : ℕ) (m : Manager) (r : Reply) (n : Manager) → Unlocks broken task m r n → is_sound r ≡ true → IsBy (unlock_refusal broken task m) (Reply.Done) m (written ManagerRecord.Unlocked m) r n
unlock_is broken task m Reply.Fault n h sound = cc
unlock_is broken task m (Reply.Done) n h sound = by_own _ _ _ _ _ _ h.0 refl h.1
unlock_is broken task m r n h sound = by_refusal _ _ _ _ _ _ h.0 h.1

pub unlock_decided : (broken : ℕ → Bool) (task : ℕ) (m : Manager) (r q : Reply) (n o : Manager) → Unlocks broken task m r n → Unlocks broken task m q o → is_sound r ≡ true → is_sound q ≡ true → (r ≡ q) × (n ≡ o)
unlock_decided broken task m r q n o h k a b = both_by _ _ _ _ r q n o (unlock_is broken task m r n h a) (unlock_is broken task m q o k b)

ask_is : (begun : Bool) (bid : ℕ) (m : Manager) (r : Reply) (n : Manager) → Asks begun bid m r n → is_sound r ≡ true → IsBy (ask_refusal begun bid m) (Reply.Done) m (written (ManagerRecord.Asked bid) m) r n
ask_is begun bid m Reply.Fault n h sound = cc
ask_is begun bid m (Reply.Done) n h sound = by_own _ _ _ _ _ _ h.0 refl h.1
ask_is begun bid m r n h sound = by_refusal _ _ _ _ _ _ h.0 h.1

pub ask_decided : (begun : Bool) (bid : ℕ) (m : Manager) (r q : Reply) (n o : Manager) → Asks begun bid m r n → Asks begun bid m q o → is_sound r ≡ true → is_sound q ≡ true → (r ≡ q) × (n ≡ o)
ask_decided begun bid m r q n o h k a b = both_by _ _ _ _ r q n o (ask_is begun bid m r n h a) (ask_is begun bid m q o k b)

commit_is : (shape : VolumeShape) (bid : ℕ) (m : Manager) (r : Reply) (n : Manager) → Commits shape bid m r n → is_sound r ≡ true → IsBy (commit_refusal shape bid m) (Reply.Done) m (written (ManagerRecord.Committed bid) m) r n
commit_is shape bid m Reply.Fault n h sound = cc
commit_is shape bid m (Reply.Done) n h sound = by_own _ _ _ _ _ _ h.0 refl h.1
commit_is shape bid m r n h sound = by_refusal _ _ _ _ _ _ h.0 h.1

pub commit_decided : (shape : VolumeShape) (bid : ℕ) (m : Manager) (r q : Reply) (n o : Manager) → Commits shape bid m r n → Commits shape bid m q o → is_sound r ≡ true → is_sound q ≡ true → (r ≡ q) × (n ≡ o)
commit_decided shape bid m r q n o h k a b = both_by _ _ _ _ r q n o (commit_is shape bid m r n h a) (commit_is shape bid m q o k b)

-- ---- a swap, which has two replies of its own

data SwapKind (shape : VolumeShape) (broken : ℕ → Bool) (task : ℕ) (m : Manager) (r : Reply) (n : Manager) : Type 0 where
  Swapped : swap_refusal shape broken task m ≡ None → AreAllSettled shape broken m → r ≡ Reply.Done → n ≡ written ManagerRecord.Swapped m → SwapKind shape broken task m r n
  Lacking : (bid : ℕ) → swap_refusal shape broken task m ≡ None → IsFirstUnsettled shape broken m bid → r ≡ Reply.NotCopied bid → n ≡ m → SwapKind shape broken task m r n
  Refused : swap_refusal shape broken task m ≡ Some r → n ≡ m → SwapKind shape broken task m r n

swap_kind : (shape : VolumeShape) (broken : ℕ → Bool) (task : ℕ) (m : Manager) (r : Reply) (n : Manager) → Swaps shape broken task m r n → is_sound r ≡ true → SwapKind shape broken task m r n
swap_kind shape broken task m Reply.Fault n h sound = cc
swap_kind shape broken task m Reply.Done n h sound = Swapped h.0 h.1 refl h.2
swap_kind shape broken task m (Reply.NotCopied bid) n h sound = Lacking bid h.0 h.1 refl h.2
swap_kind shape broken task m r n h sound = Refused h.0 h.1

some_of : (refusal : Option Reply) (a b : Reply) → refusal ≡ Some a → refusal ≡ Some b → a ≡ b
some_of refusal a b h k = cc

-- the least blob that lacks something is one
least_is : (shape : VolumeShape) (broken : ℕ → Bool) (m : Manager) (a b : ℕ) → IsFirstUnsettled shape broken m a → IsFirstUnsettled shape broken m b → a ≡ b
least_is shape broken m a b h k = go (cases_order a b) where
  go : (a ≡ b) ⊎ ((a < b) ⊎ (b < a)) → a ≡ b
  go (inl same) = same
  go (inr (inl less)) = let no = k.first a less in let yes = h.unsettled in cc
  go (inr (inr more)) = let no = h.first b more in let yes = k.unsettled in cc

pub swap_decided : (shape : VolumeShape) (broken : ℕ → Bool) (task : ℕ) (m : Manager) (r q : Reply) (n o : Manager) → Swaps shape broken task m r n → Swaps shape broken task m q o
    → is_sound r ≡ true → is_sound q ≡ true → (r ≡ q) × (n ≡ o)
swap_decided shape broken task m r q n o h k a b = go (swap_kind shape broken task m r n h a) (swap_kind shape broken task m q o k b) where
  go : SwapKind shape broken task m r n → SwapKind shape broken task m q o → (r ≡ q) × (n ≡ o)
  go (Swapped x all is then) (Swapped y also is_too then_too) = (is ∙ sym is_too, then ∙ sym then_too)
  go (Swapped x all is then) (Lacking bid y first is_too then_too) = let settled = all bid in let unsettled = first.unsettled in cc
  go (Swapped x all is then) (Refused y then_too) = cc
  go (Lacking bid x first is then) (Swapped y all is_too then_too) = let settled = all bid in let unsettled = first.unsettled in cc
  go (Lacking bid x first is then) (Lacking other y also is_too then_too) = (is ∙ ap Reply.NotCopied (least_is shape broken m bid other first also) ∙ sym is_too, then ∙ sym then_too)
  go (Lacking bid x first is then) (Refused y then_too) = cc
  go (Refused x then) (Swapped y all is_too then_too) = cc
  go (Refused x then) (Lacking bid y first is_too then_too) = cc
  go (Refused x then) (Refused y then_too) = (some_of _ r q x y, then ∙ sym then_too)
