-- Homes one after another, and by index.
use Rattle.std.proofs.Common.{◌≡◌, ◌∙◌, sym, ap, subst, refl, ℕ, zero, suc, ◌-◌, ◌<◌, ◌≤◌, Bool, true, false, List, [], ◌∷◌, length, take, drop, get_or, arith}
use Rattle.std.proofs.lemmas.List.{take_all}
use Rattle.code_mode.specs.VolumeShape.{VolumeShape, last_epoch}
use Rattle.unit_id.specs.Place.{Location}
use Rattle.volume_entry.specs.Manager.{IsDisk, AreFirstHomes, home_at}
use Rattle.volume_entry.specs.FirstHomes.{IsFresh, AreFresh}
use Rattle.volume_entry.specs.TableParts.{Tells}

pub fresh_both : (shape : VolumeShape) (h : Location) (hs all : List Location) (answer : Bool) → all ≡ h ∷ hs → IsFresh shape h hs → Tells answer (AreFresh shape hs) → Tells answer (AreFresh shape all)
fresh_both shape h hs all true e here rest = let P : List Location → Type 0 = AreFresh shape in subst P (sym e) (here, rest)
fresh_both shape h hs all false e here rest = let P : List Location → Type 0 = λ ls. AreFresh shape ls → ⊥ in subst P (sym e) (λ a. rest a.1)

pub fresh_not : (shape : VolumeShape) (h : Location) (hs all : List Location) → all ≡ h ∷ hs → (IsFresh shape h hs → ⊥) → AreFresh shape all → ⊥
fresh_not shape h hs all e n = let P : List Location → Type 0 = λ ls. AreFresh shape ls → ⊥ in subst P (sym e) (λ a. n a.0)

-- a list by its first element and the slice behind it
pub first_and_rest : (hs : List Location) (h : Location) → 1 ≤ length hs → h ≡ get_or hs 0 h → hs ≡ h ∷ take (length hs - 1) (drop 1 hs)
first_and_rest [] h n e = absurd (omega arith)
first_and_rest (x ∷ xs) h n e =
    let k : length (x ∷ xs) - 1 ≡ length xs = omega arith in
    ap (λ y. y ∷ xs) (sym e) ∙ ap (λ ys. h ∷ ys) (sym (ap (λ i. take i xs) k ∙ take_all (length xs) xs (omega arith)))

epoch_at : (shape : VolumeShape) (hs : List Location) → AreFresh shape hs → (i : ℕ) → i < length hs → (1 ≤ (home_at hs i).epoch) × ((home_at hs i).epoch ≤ last_epoch)
epoch_at shape [] f i h = absurd (omega arith)
epoch_at shape (x ∷ xs) f zero h = (f.0.first, f.0.last)
epoch_at shape (x ∷ xs) f (suc i) h = epoch_at shape xs f.1 i (omega arith)

disk_at : (shape : VolumeShape) (hs : List Location) → AreFresh shape hs → (i : ℕ) → i < length hs → IsDisk shape (home_at hs i).disk
disk_at shape [] f i h = absurd (omega arith)
disk_at shape (x ∷ xs) f zero h = f.0.disk
disk_at shape (x ∷ xs) f (suc i) h = disk_at shape xs f.1 i (omega arith)

apart_at : (shape : VolumeShape) (hs : List Location) → AreFresh shape hs → (i j : ℕ) → i < length hs → j < length hs → (home_at hs i).disk ≡ (home_at hs j).disk → i ≡ j
apart_at shape [] f i j h k e = absurd (omega arith)
apart_at shape (x ∷ xs) f zero zero h k e = refl
apart_at shape (x ∷ xs) f zero (suc j) h k e = absurd (f.0.free j (omega arith) (sym e))
apart_at shape (x ∷ xs) f (suc i) zero h k e = absurd (f.0.free i (omega arith) e)
apart_at shape (x ∷ xs) f (suc i) (suc j) h k e = ap suc (apart_at shape xs f.1 i j (omega arith) (omega arith) e)

fresh_of : (shape : VolumeShape) (hs : List Location)
    → ((i : ℕ) → i < length hs → (1 ≤ (home_at hs i).epoch) × ((home_at hs i).epoch ≤ last_epoch))
    → ((i : ℕ) → i < length hs → IsDisk shape (home_at hs i).disk)
    → ((i j : ℕ) → i < length hs → j < length hs → (home_at hs i).disk ≡ (home_at hs j).disk → i ≡ j) → AreFresh shape hs
fresh_of shape [] e d a = tt
fresh_of shape (x ∷ xs) e d a = (
  record {
    first = (e 0 (omega arith)).0;
    last = (e 0 (omega arith)).1;
    disk = d 0 (omega arith);
    free = λ i h k. let same : suc i ≡ 0 = a (suc i) 0 (omega arith) (omega arith) k in absurd (omega arith);
  },
  fresh_of shape xs (λ i h. e (suc i) (omega arith)) (λ i h. d (suc i) (omega arith)) (λ i j h k s. let same : suc i ≡ suc j = a (suc i) (suc j) (omega arith) (omega arith) s in omega arith),
)

pub first_homes : (shape : VolumeShape) (hs : List Location) → length hs ≡ shape.total → AreFresh shape hs → AreFirstHomes shape hs
first_homes shape hs n f = record {
  count = n;
  epochs = λ i h. epoch_at shape hs f i (omega arith);
  disks = λ i h. disk_at shape hs f i (omega arith);
  apart = λ i j h k e. apart_at shape hs f i j (omega arith) (omega arith) e;
}

pub are_fresh : (shape : VolumeShape) (hs : List Location) → AreFirstHomes shape hs → AreFresh shape hs
are_fresh shape hs f =
    let n : length hs ≡ shape.total = f.count in
    fresh_of shape hs (λ i h. f.epochs i (omega arith)) (λ i h. f.disks i (omega arith)) (λ i j h k e. f.apart i j (omega arith) (omega arith) e)
