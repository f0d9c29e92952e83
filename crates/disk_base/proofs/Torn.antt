-- A file in memory is a disk: what a crash may leave after a write and after a sync.
use Rattle.std.proofs.Common.{◌≡◌, ◌⊎◌, inl, inr, ℕ, suc, ◌+◌, ◌-◌, ◌<◌, ◌≤◌, min, max, true, List, ◌∷◌, ◌++◌, length, take, drop, get_or, Option, Some, None, refl, ap, ◌∙◌, sym, subst, arith, length-append, length-drop, get_or-take, get_or-drop, append_assoc}
use Rattle.std.specs.Prelude.{IfSome, IsSomeAnd, Result, Ok, Err, OnOk, OnErr}
use Rattle.std.proofs.lemmas.Bool.{cases_lt}
use Rattle.std.proofs.lemmas.Grind.{same_number_lists}
use Rattle.std.proofs.lemmas.List.{length-take, length-take-le, take_at, drop_at, take_all, drop_all, take-take, get_or_past}
use Rattle.std.proofs.lemmas.Bool.Decides.{nat_tests}
use Rattle.disk_base.specs.Disk.{overwritten, IsTorn, IsWithin, LeavesExactly, TearsFrom, GoesOn}
use Rattle.disk_base.specs.Images.{Epoch, IsImage, is_settled, UnlessLying, told, FileState, content_of, moment_of, MayLeave, IsImageOfSome, settled_epoch, after_write, after_sync, counted, view_of}
use Rattle.disk_base.proofs.Overwrites.{length-overwritten, before, inside, behind}

-- ---- the bytes

torn-overwritten : (b w : List ℕ) (at : ℕ) → at ≤ length b → IsTorn at (length w) b (overwritten b at w)
torn-overwritten b w at within =
    let long = length-overwritten b w at within in
    let front = length-take-le at b within in
    let both = length-append (take at b) w in
    record {
      front = take_at (take at b) (w ++ drop (at + length w) b) at front;
      back = ap (λ (l : List ℕ). drop (at + length w) l) (sym (append_assoc (take at b) w (drop (at + length w) b)))
          ∙ drop_at (take at b ++ w) (drop (at + length w) b) (at + length w) (omega (arith, both, front));
      no_shorter = omega (arith, long);
      no_longer = omega (arith, long);
    }

start : (b : List ℕ) (at : ℕ) → at ≤ length b → at ≡ min at (length b)
start b at within = omega arith

pub write-torn : (lies : Option (List ℕ)) (b w : List ℕ) (at : ℕ) → IfSome (told lies b) (λ was. at ≤ length was) →
    IfSome (told lies b) (λ was. IsSomeAnd (told lies (overwritten b (min at (length b)) w)) (λ now. IsTorn at (length w) was now))
write-torn None b w at within = subst (λ s. IsTorn at (length w) b (overwritten b s w)) (start b at within) (torn-overwritten b w at within)
write-torn (Some lies) b w at within = tt

-- ---- the images

-- the epoch after a write
abbrev written : Epoch → ℕ → List ℕ → Epoch
written e at w = record { bytes = overwritten e.bytes at w; settled_end = e.settled_end; written = record { at = at; count = length w } ∷ e.written }

module _ (e : Epoch) (w : List ℕ) (at : ℕ) (within : at ≤ length e.bytes) where
  abbrev new : Epoch
  new = written e at w

  abbrev long : length new.bytes ≡ max (length e.bytes) (at + length w)
  long = length-overwritten e.bytes w at within

  -- a byte that is settled after the write was so before it
  settled_before : (place : ℕ) → is_settled new place ≡ true → is_settled e place ≡ true
  settled_before place settled = grind (arith, nat_tests)

  -- and isn't in its range
  out_of_range : (place : ℕ) → is_settled new place ≡ true → (place < at) ⊎ (at + length w ≤ place)
  out_of_range place settled = elim (cases_lt place at) [
    | inl lower ↦ inl lower
    | inr upper ↦ elim (cases_lt place (at + length w)) [
      | inl inner ↦ absurd (grind (arith, nat_tests))
      | inr higher ↦ inr higher
    ]
  ]

  -- out of the range a byte is settled as it was
  settled_out : (place : ℕ) → (place < at) ⊎ (at + length w ≤ place) → is_settled e place ≡ true → is_settled new place ≡ true
  settled_out place (inl lower) settled = grind (arith, nat_tests)
  settled_out place (inr higher) settled = grind (arith, nat_tests)

  below_end : (place : ℕ) → is_settled e place ≡ true → place < e.settled_end
  below_end place settled = grind (arith, nat_tests)

  -- the image ends before the range: then it was there before
  short : (c : List ℕ) → IsImage new c → length c ≤ at → IsImage e c
  short c image ends = record {
    no_shorter = omega (arith, image.no_shorter, long);
    no_longer = omega (arith, ends, within);
    stays = λ place settled. elim (cases_lt place at) [
      | inl lower ↦ image.stays place (settled_out place (inl lower) settled) ∙ before e.bytes w at within place lower
      | inr upper ↦
          get_or_past c place 0 (omega (arith, ends, upper))
          ∙ sym (get_or_past e.bytes place 0 (omega (arith, below_end place settled, image.no_shorter, long, ends, upper)))
    ];
  }

  module _ (c : List ℕ) (image : IsImage new c) (starts : at ≤ length c) where
    abbrev kept : List ℕ
    kept = take (length e.bytes) c

    abbrev size : ℕ
    size = min (length c) (length e.bytes)

    length-kept : length kept ≡ size
    length-kept = omega (arith, length-take (length e.bytes) c)

    abbrev piece : List ℕ
    piece = take (min (length w) (size - at)) (drop at e.bytes)

    length-piece : length piece ≡ min (length w) (size - at)
    length-piece = omega (arith, length-take (min (length w) (size - at)) (drop at e.bytes), length-drop at e.bytes)

    -- the image with the bytes of the range as they were
    abbrev was : List ℕ
    was = overwritten kept at piece

    fits : at ≤ length kept
    fits = omega (arith, length-kept, starts, within)

    length-was : length was ≡ size
    length-was = omega (arith, length-overwritten kept piece at fits, length-kept, length-piece, starts, within)

    same_at : (place : ℕ) → is_settled e place ≡ true → get_or was place 0 ≡ get_or e.bytes place 0
    same_at place settled = elim (cases_lt place at) [
      | inl lower ↦
          before kept piece at fits place lower
          ∙ get_or-take (length e.bytes) c place 0 (omega (arith, lower, within))
          ∙ image.stays place (settled_out place (inl lower) settled)
          ∙ before e.bytes w at within place lower
      | inr upper ↦ elim (cases_lt place (at + length piece)) [
        | inl inner ↦
            let there : at + (place - at) ≡ place = omega (arith, upper) in
            inside kept piece at fits place upper inner
            ∙ get_or-take (min (length w) (size - at)) (drop at e.bytes) (place - at) 0 (omega (arith, upper, inner, length-piece))
            ∙ get_or-drop at e.bytes (place - at) 0
            ∙ ap (λ (n : ℕ). get_or e.bytes n 0) there
        | inr higher ↦ behind kept piece at fits place higher ∙ elim (cases_lt place size) [
          | inl below ↦
              let past_range : at + length w ≤ place = omega (arith, below, higher, length-piece) in
              get_or-take (length e.bytes) c place 0 (omega (arith, below))
              ∙ image.stays place (settled_out place (inr past_range) settled)
              ∙ behind e.bytes w at within place past_range
          | inr past ↦
              get_or_past kept place 0 (omega (arith, past, length-kept))
              ∙ sym (get_or_past e.bytes place 0 (omega (arith, past, below_end place settled, image.no_shorter, long)))
        ]
      ]
    ]

    was_image : IsImage e was
    was_image = record {
      no_shorter = omega (arith, length-was, image.no_shorter, long);
      no_longer = omega (arith, length-was);
      stays = same_at;
    }

    torn_back : drop (at + length w) c ≡ drop (at + length w) was
    torn_back = elim (cases_lt (at + length w) (length c)) [
      | inl goes_on ↦
          let whole : kept ≡ c = take_all (length e.bytes) c (omega (arith, goes_on, image.no_longer, long)) in
          let all : length piece ≡ length w = omega (arith, length-piece, goes_on, image.no_longer, long) in
          sym (ap (λ (n : ℕ). drop (at + n) was) (sym all) ∙ (torn-overwritten kept piece at fits).back ∙ ap (λ (n : ℕ). drop (at + n) kept) all ∙ ap (λ (l : List ℕ). drop (at + length w) l) whole)
      | inr ends ↦ drop_all (at + length w) c ends ∙ sym (drop_all (at + length w) was (omega (arith, length-was, ends)))
    ]

    torn : IsTorn at (length w) was c
    torn = record {
      front = sym ((torn-overwritten kept piece at fits).front ∙ take-take at (length e.bytes) c within);
      back = torn_back;
      no_shorter = omega (arith, length-was);
      no_longer = omega (arith, length-was, image.no_longer, long);
    }

  pub image-torn : (c : List ℕ) → IsImage new c → (was : List ℕ) × IsImage e was × IsTorn at (length w) was c
  image-torn c image = elim (cases_lt (length c) at) [
    | inl ends ↦ (c, short c image (omega (arith, ends)), record { front = refl; back = refl; no_shorter = omega arith; no_longer = omega arith })
    | inr starts ↦ (was c image starts, was_image c image starts, torn c image starts)
  ]

  -- what could be left before the write can be left after it
  pub image-stays : e.settled_end ≤ length e.bytes → (c : List ℕ) → IsImage e c → IsImage new c
  image-stays settled_within c image = record {
    no_shorter = omega (arith, image.no_shorter, long, settled_within);
    no_longer = omega (arith, image.no_longer, long);
    stays = λ place settled. image.stays place (settled_before place settled) ∙ elim (out_of_range place settled) [
      | inl lower ↦ sym (before e.bytes w at within place lower)
      | inr higher ↦ sym (behind e.bytes w at within place higher)
    ];
  }

-- ---- the files

-- a set that a lying file leaves open is the set of all contents
lifted : (lies : Option (List ℕ)) (P Q : Type 0) → (P → Q) → UnlessLying lies P → UnlessLying lies Q
lifted None P Q f p = f p
lifted (Some lies) P Q f p = tt

written_by : (lies : Option (List ℕ)) (e : Epoch) (w : List ℕ) (at : ℕ) → IfSome (told lies e.bytes) (λ was. at ≤ length was) → (c : List ℕ) →
    UnlessLying lies (IsImage (written e (min at (length e.bytes)) w) c) → (was : List ℕ) × UnlessLying lies (IsImage e was) × IsTorn at (length w) was c
written_by None e w at within c image = image-torn e w at within c (subst (λ s. IsImage (written e s w) c) (sym (start e.bytes at within)) image)
written_by (Some lies) e w at within c image = (c, tt, record { front = refl; back = refl; no_shorter = omega arith; no_longer = omega arith })

pub write-tears : (file : FileState) (at : ℕ) (w : List ℕ) → IfSome (content_of file) (λ was. at ≤ length was) → TearsFrom at (length w) (MayLeave file) (MayLeave (after_write at w file))
write-tears file at w within c image = written_by file.lies file.present w at within c image

either : (lies : Option (List ℕ)) (P Q R : Type 0) → UnlessLying lies (P ⊎ R) → UnlessLying lies (Q ⊎ R) ⊎ UnlessLying lies P
either None P Q R (inl p) = inr p
either None P Q R (inr r) = inl (inr r)
either (Some lies) P Q R is = inl tt

onward : (lies : Option (List ℕ)) (P Q R : Type 0) → (P → Q) → UnlessLying lies (P ⊎ R) → UnlessLying lies (Q ⊎ R)
onward None P Q R f (inl p) = inl (f p)
onward None P Q R f (inr r) = inr r
onward (Some lies) P Q R f is = tt

pub write-goes_on : (file : FileState) (at : ℕ) (w : List ℕ) → file.present.settled_end ≤ length file.present.bytes →
    GoesOn (view_of file) (view_of (after_write at w file))
write-goes_on file at w settled_within =
    let e = file.present in
    let s = min at (length e.bytes) in
    let new = written e s w in
    record {
      never_falls = omega arith;
      since_then = λ t c le is. either file.lies (IsImage new c) (IsImage e c) (IsImageOfSome (take (moment_of file - t) file.past) c) is;
      stays = λ t c le is. onward file.lies (IsImage e c) (IsImage new c) (IsImageOfSome (take (moment_of file - t) file.past) c) (image-stays e w s (omega arith) settled_within c) is;
    }

-- an epoch that ended counts for each moment before its end
one_more_epoch : (e : Epoch) (past : List Epoch) (t : ℕ) → t ≤ length past → take (suc (length past) - t) (e ∷ past) ≡ e ∷ take (length past - t) past
one_more_epoch e past t le = let count : suc (length past) - t ≡ suc (length past - t) = omega (arith, le) in ap (λ (n : ℕ). take n (e ∷ past)) count

sync_either : (lies : Option (List ℕ)) (P Q R : Type 0) → UnlessLying lies (P ⊎ (Q ⊎ R)) → UnlessLying lies (Q ⊎ R) ⊎ UnlessLying lies P
sync_either None P Q R (inl p) = inr p
sync_either None P Q R (inr past) = inl past
sync_either (Some lies) P Q R is = inl tt

pub sync-goes_on : (file : FileState) → GoesOn (view_of file) (view_of (after_sync file))
sync-goes_on file =
    let e = file.present in
    let new = (after_sync file).present in
    record {
      never_falls = omega arith;
      since_then = λ t c le is.
          sync_either file.lies (IsImage new c) (IsImage e c) (IsImageOfSome (take (moment_of file - t) file.past) c)
          (subst (λ l. UnlessLying file.lies (IsImage new c ⊎ IsImageOfSome l c)) (one_more_epoch e file.past t le) is);
      stays = λ t c le is.
          subst (λ l. UnlessLying file.lies (IsImage new c ⊎ IsImageOfSome l c)) (sym (one_more_epoch e file.past t le))
          (lifted file.lies (IsImage e c ⊎ IsImageOfSome (take (moment_of file - t) file.past) c) (IsImage new c ⊎ (IsImage e c ⊎ IsImageOfSome (take (moment_of file - t) file.past) c)) (λ left. inr left) is);
    }

pub still-goes_on : (file : FileState) → GoesOn (view_of file) (view_of (counted file))
still-goes_on file = record { never_falls = omega arith; since_then = λ t c le is. inl is; stays = λ t c le is. is }

pub on_error : {T E : Type 0} (result : Result T E) (P : Type 0) → P → OnErr result P
on_error (Ok _) P p = tt
on_error (Err _) P p = p

pub only_bytes : (bytes c : List ℕ) → IsImage (settled_epoch bytes) c → c ≡ bytes
only_bytes bytes c image = same_number_lists c bytes (omega (arith, image.no_shorter, image.no_longer)) (λ k h. image.stays k (within k (omega (arith, h, image.no_longer))))
  where
    within : (k : ℕ) → k < length bytes → is_settled (settled_epoch bytes) k ≡ true
    within k lt = grind (arith, nat_tests)

leaves_exactly : (lies : Option (List ℕ)) (bytes : List ℕ) → IfSome (told lies bytes) (λ all. LeavesExactly all (λ c. UnlessLying lies (IsImage (settled_epoch bytes) c)))
leaves_exactly None bytes = only_bytes bytes
leaves_exactly (Some lies) bytes = tt

narrower : (lies : Option (List ℕ)) (e : Epoch) (c : List ℕ) → UnlessLying lies (IsImage (settled_epoch e.bytes) c) → UnlessLying lies (IsImage e c)
narrower None e c image = subst (λ l. IsImage e l) (sym (only_bytes e.bytes c image)) (record { no_shorter = omega arith; no_longer = omega arith; stays = λ place settled. refl })
narrower (Some lies) e c image = tt

pub answered-settled : {T E : Type 0} (result : Result T E) (old later : FileState) → OnOk result (later ≡ after_sync old) → OnOk result (IfSome (content_of old) (λ bytes. LeavesExactly bytes (MayLeave later)))
answered-settled (Ok x) old later ok = subst (λ f. IfSome (content_of old) (λ bytes. LeavesExactly bytes (MayLeave f))) (sym ok) (leaves_exactly old.lies old.present.bytes)
answered-settled (Err x) old later ok = tt

pub answered-within : {T E : Type 0} (result : Result T E) (old later : FileState) → OnOk result (later ≡ after_sync old) → OnErr result (later ≡ counted old) → IsWithin (MayLeave later) (MayLeave old)
answered-within (Ok x) old later ok err = subst (λ f. IsWithin (MayLeave f) (MayLeave old)) (sym ok) (narrower old.lies old.present)
answered-within (Err x) old later ok err = subst (λ f. IsWithin (MayLeave f) (MayLeave old)) (sym err) (λ c is. is)
