-- What a new file has once a volume is made in it.
use Rattle.std.proofs.Common.{◌≡◌, ◌∙◌, sym, ap, refl, subst, ℕ, zero, suc, ◌+◌, ◌*◌, ◌<◌, ◌≤◌, Bool, false, List, [], ◌∷◌, length, replicate, Option, None, Some, Result, Ok, Err, IfSome, IsSome, IsSomeAnd, inl, arith}
use Rattle.std.specs.List.{flat_map}
use Rattle.std.proofs.lemmas.List.{length-append}
use Rattle.disk_base.specs.Disk.{FileView, Lasts}
use Rattle.unit_id.specs.Place.{Location}
use Rattle.gate_log.specs.LogFile.{Contents, holds, bad_head, bad_chain, contents_of, bodies_of, end_place, IsLogOf, IsSameOrOpen}
use Rattle.gate_log.specs.LogLaws.{start_keeps}
use Rattle.gate_log.specs.GateLog.{LogOver, LogView, HasBodies, StartsWith, Starts, StartAnswers, shown}
use Rattle.gate_log.specs.declared.fault.LogFault.{LogFault}
use Rattle.gate_log.specs.declared.fault.LogFault.TheVariants as logs
use Rattle.code_mode.specs.declared.mode.Mode.{Mode}
use Rattle.volume_entry.specs.Manager.{ManagerRecord, Manager, AreFirstHomes, fresh_manager}
use Rattle.volume_entry.specs.Spelling.{Spells, fields_of, home_bytes}
use Rattle.volume_entry.specs.TableParts.{shape_of}
use Rattle.volume_entry.specs.HeardMemory.{HeardMemory}
use Rattle.volume_entry.specs.Book.{BookOver, Keeps, IsSoundPart, CountsFault, GrowsUpTo, HasRoomFor, item_size}
use Rattle.volume_entry.specs.BookStart.{IsForgetful, fault_by_start}
use Rattle.volume_entry.specs.Entry.{EntryOver, Stands, is_broken}
use Rattle.volume_entry.specs.Making.{IsNew, Makes, Opens, Begins, last_first_end}
use Rattle.volume_entry.specs.declared.shape.Shape.{Shape}
use Rattle.volume_entry.specs.declared.fault.EntryFault.TheVariants as faults
use Rattle.volume_entry.proofs.SoundParts.{few_units}
use Rattle.volume_entry.proofs.BookEnds.{log_says, is_started}
use Rattle.volume_entry.proofs.BookReads.{sound_first}

-- ---- the record of the making is short

length-homes : (homes : List Location) → length (flat_map home_bytes homes) ≡ 8 * length homes
length-homes [] = refl
length-homes (h ∷ hs) = let r = length-homes hs in let e = length-append (home_bytes h) (flat_map home_bytes hs) in omega (arith, r, e)

made_size : (vid : ℕ) (mode : Mode) (homes : List Location) → item_size vid mode (ManagerRecord.Made homes) ≡ 11 + 8 * length homes
unfolding fields_of
made_size vid mode homes = let h = length-homes homes in omega (arith, h)

module _ (vid : ℕ) (shape : Shape) (homes : List Location) (first : AreFirstHomes (shape_of shape) homes) (item : ManagerRecord) (is : item ≡ ManagerRecord.Made homes) where
  count : length homes ≤ 27
  count = let n = first.count in let f = few_units shape in omega (arith, n, f)

  pub made_room : HasRoomFor (item_size vid shape.mode item) (Some (end_place []))
  made_room = subst (λ i. HasRoomFor (item_size vid shape.mode i) (Some (end_place []))) (sym is) (
      let s = made_size vid shape.mode homes in (omega (arith, s, count), omega (arith, s, count))
      )

  -- .. and so is a log that has only it
  pub early_end : (end : Option ℕ) → GrowsUpTo (5 + item_size vid shape.mode item) (Some (end_place [])) end → IfSome end (λ place. place ≤ last_first_end)
  early_end None grows = tt
  early_end (Some place) grows =
      let s = ap (item_size vid shape.mode) is ∙ made_size vid shape.mode homes in
      let n = count in
      omega (arith, grows, s, n)

-- ---- a log over a new file

nothing_holds : contents_of [] ≡ holds []
unfolding contents_of
nothing_holds = refl

nothing_log : IsLogOf [] []
nothing_log = record { stands = nothing_holds; gate = inl (omega arith) }

no_bodies : bodies_of [] ≡ []
unfolding contents_of
no_bodies = refl

no_head : holds [] ≡ bad_head → ⊥
no_head h = cc

no_chain : (place : ℕ) → holds [] ≡ bad_chain place → ⊥
no_chain place h = cc

-- what a start over an empty file says
module _ (old new : LogView) where
  started_empty : (content : Option (List ℕ)) → IfSome content (λ bytes. bytes ≡ []) → IfSome content (λ file. StartsWith {T = Unit {0}} file old new (Ok tt)) → IfSome content (λ _. HasBodies new [])
  started_empty None is told = tt
  started_empty (Some bytes) is told = subst (HasBodies new) (ap bodies_of is ∙ no_bodies) told.started

  kept : (bytes : List ℕ) (after : Option (List ℕ)) → bytes ≡ [] → IsSomeAnd after (IsSameOrOpen bytes) → IsSomeAnd after (λ image. IsLogOf image [])
  kept bytes None is says = absurd says
  kept bytes (Some image) is says = start_keeps [] image [] nothing_log (subst (λ f. IsSameOrOpen f image) is says)

  said_empty : (content : Option (List ℕ)) (result : Result (Unit {0}) LogFault) → IfSome content (λ bytes. bytes ≡ []) → IfSome content (λ file. StartsWith {T = Unit {0}} file old new result)
      → IfSome content (λ _. IsSomeAnd new.file.content (λ image. IsLogOf image []))
  said_empty None result is told = tt
  said_empty (Some bytes) result is told = kept bytes new.file.content is told.says

-- a new file that tells has the head and the chain of a log
never : (content : Option (List ℕ)) (bad : Contents) → (holds [] ≡ bad → ⊥) → IfSome content (λ bytes. bytes ≡ []) → IfSome content (λ file. contents_of file ≡ bad) → content ≡ None
never None bad other is says = refl
never (Some bytes) bad other is says = absurd (other (sym nothing_holds ∙ ap contents_of (sym is) ∙ says))

module _ {E : Type 0} (seen : E → FileView) (old new : LogOver E) (is : IsNew (seen old.file)) where
  pub opens_err : (fault : LogFault) → StartAnswers {T = Unit {0}} (seen old.file).content (Err fault) → Starts {T = Unit {0}} (shown seen old) (shown seen new) (Err fault) → Opens seen old new (Err (fault_by_start fault))
  opens_err logs.Fault answer told = said_empty (shown seen old) (shown seen new) (seen old.file).content (Err logs.Fault) is told
  opens_err logs.Memory answer told = said_empty (shown seen old) (shown seen new) (seen old.file).content (Err logs.Memory) is told
  opens_err logs.BadHead answer told = never (seen old.file).content bad_head no_head is answer
  opens_err (logs.BadChain place) answer told = never (seen old.file).content (bad_chain place) (no_chain place) is answer
  opens_err _ answer told = absurd answer

  pub opens_ok : Starts {T = Unit {0}} (shown seen old) (shown seen new) (Ok tt) → new.end ≡ Some (end_place []) → Opens seen old new (Ok tt)
  opens_ok told ends = (ends, started_empty (shown seen old) (shown seen new) (seen old.file).content is told)

-- ---- the entry

module _ {E : Type 0} (seen : E → FileView) (vid : ℕ) (shape : Shape) (homes : List Location) (first : AreFirstHomes (shape_of shape) homes) (file : E) (log : LogOver E) (part : Manager) (is : part ≡ fresh_manager homes) (item : ManagerRecord) (made : item ≡ ManagerRecord.Made homes) where
  abbrev book : BookOver E
  book = record { vid = vid; shape = shape; log = log; part = part; doubt = None }

  keeps_made : (body : List ℕ) → Spells vid shape.mode (ManagerRecord.Made homes) body → HasBodies (shown seen log) (body ∷ []) → Keeps seen book (fresh_manager homes) false None
  keeps_made body spells has = record {
    items = ManagerRecord.Made homes ∷ [];
    legal = (first, refl);
    same = is;
    bodies = body ∷ [];
    spelled = (spells, tt);
    shut = is_started (shown seen log) (body ∷ []) has;
    open_ = λ _. record { has = has; certain = refl };
    says = log_says (shown seen log) (body ∷ []) has;
    known = refl;
    place = tt;
    doubtful = tt;
  }

  module _ (begins : Begins seen vid shape.mode item (record { file = file; end = None }) log (Ok tt)) (heard : HeardMemory) (forgets : IsForgetful (shape_of shape) part heard) (broken : List Bool) where
    abbrev entry : EntryOver E
    entry = record { book = book; heard = heard; broken = broken }

    stands : (body : List ℕ) → Spells vid shape.mode (ManagerRecord.Made homes) body → HasBodies (shown seen log) (body ∷ []) → Stands seen entry (fresh_manager homes)
    stands body spells has = record {
      book = keeps_made body spells has;
      heard = forgets (fresh_manager homes) refl refl (sym (ap (λ (p : Manager). p.lock) is));
    }

    pub made_ok : CountsFault {T = Unit {0}} (seen file).faults (seen log.file).faults (Ok tt) → GrowsUpTo (5 + item_size vid shape.mode item) (Some (end_place [])) log.end
        → Lasts (seen file) (seen log.file) → ((disk : ℕ) → is_broken broken disk ≡ false) → length broken ≡ 65 → Makes seen vid shape homes file (Ok entry)
    made_ok counts grows lasts unbroken flags = record {
      vid_is = refl;
      shape_is = refl;
      part_is = is;
      open_ = some log.end begins.0;
      early = early_end vid shape homes first item made log.end grows;
      certain = refl;
      unheard = forgets;
      unbroken = unbroken;
      flags = flags;
      faults = counts;
      lasts = lasts;
      stands = go (seen file).content begins.1;
    }
      where
        some : (end : Option ℕ) → IsSomeAnd end (λ e. end_place [] < e) → IsSome end
        some None none = absurd none
        some (Some e) h = refl

        go : (content : Option (List ℕ)) → IfSome content (λ _. (body : List ℕ) × Spells vid shape.mode item body × HasBodies (shown seen log) (body ∷ [])) → IfSome content (λ _. Stands seen entry (fresh_manager homes))
        go None told = tt
        go (Some bytes) told = stands told.0 (subst (λ i. Spells vid shape.mode i told.0) made told.1) told.2

-- the book that is made is sound
pub made_sound : (shape : Shape) (homes : List Location) → AreFirstHomes (shape_of shape) homes → (end : Option ℕ) (part : Manager) → part ≡ fresh_manager homes → IsSomeAnd end (λ e. end_place [] < e) → IsSoundPart (shape_of shape) end part
made_sound shape homes first None part is none = absurd none
made_sound shape homes first (Some end) part is behind = sound_first shape end homes part (omega (arith, behind)) first is

-- want of memory before the file is touched
pub made_none : {E : Type 0} (seen : E → FileView) (vid : ℕ) (shape : Shape) (homes : List Location) (file : E) → IsNew (seen file) → Makes seen vid shape homes file (Err (faults.Memory, file))
made_none seen vid shape homes file is = (refl, go (seen file).content is) where
  go : (content : Option (List ℕ)) → IfSome content (λ bytes. bytes ≡ []) → IfSome content (λ _. IsSomeAnd content (λ bytes. IsLogOf bytes []))
  go None new = tt
  go (Some bytes) new = subst (λ b. IsLogOf b []) (sym new) nothing_log

pub no_flag : (count disk : ℕ) → is_broken (replicate count false) disk ≡ false
no_flag zero disk = refl
no_flag (suc flags) zero = refl
no_flag (suc flags) (suc disk) = no_flag flags disk
