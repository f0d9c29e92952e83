-- For which part a book stands after a record was to be written.
use Rattle.std.proofs.Common.{◌≡◌, ◌∙◌, sym, ap, refl, subst, ℕ, ◌<◌, Bool, true, false, List, [], ◌∷◌, ◌++◌, Option, None, Some, Result, Ok, Err, IfSome, IsSome, IsSomeAnd}
use Rattle.std.specs.Prelude.{is_some, is_none}
use Rattle.disk_base.specs.Disk.{FileView}
use Rattle.gate_log.specs.LogFile.{IsLogOf, end_place}
use Rattle.gate_log.specs.LogLaws.{rest_log}
use Rattle.gate_log.specs.GateLog.{LogOver, LogView, HasBodies, IsStarted, shown}
use Rattle.code_mode.specs.declared.mode.Mode.{Mode}
use Rattle.volume_entry.specs.Manager.{ManagerRecord, Manager, IsLegal, written}
use Rattle.volume_entry.specs.Spelling.{Spells}
use Rattle.volume_entry.specs.TableParts.{shape_of}
use Rattle.volume_entry.specs.Book.{BookOver, end_unless, AreSpelled, Keeps, AppendEnds, AppendsItem, Wrote, WriteEnds, WritesRecord, CountsFault, HasRoom, doubt_after}
use Rattle.volume_entry.specs.declared.shape.Shape.{Shape}
use Rattle.volume_entry.specs.declared.fault.EntryFault.{EntryFault}
use Rattle.volume_entry.specs.declared.fault.EntryFault.TheVariants as faults
use Rattle.volume_entry.proofs.LogEnds.{ends_behind}
use Rattle.volume_entry.proofs.SoundParts.{log_more}

pub spelled_more : (vid : ℕ) (mode : Mode) (items : List ManagerRecord) (bodies : List (List ℕ)) (item : ManagerRecord) (body : List ℕ)
    → AreSpelled vid mode items bodies → Spells vid mode item body → AreSpelled vid mode (items ++ item ∷ []) (bodies ++ body ∷ [])
spelled_more vid mode [] [] item body all one = (one, tt)
spelled_more vid mode (first ∷ items) (front ∷ bodies) item body all one = (all.0, spelled_more vid mode items bodies item body all.1 one)
spelled_more vid mode [] (front ∷ bodies) item body all one = absurd all
spelled_more vid mode (first ∷ items) [] item body all one = absurd all

-- a log of bodies says them
pub log_says : (log : LogView) (bodies : List (List ℕ)) → HasBodies log bodies → IsSomeAnd log.file.content (λ file. IsLogOf file bodies)
log_says log bodies has = go log.end has
  where
    told : (end : ℕ) (content : Option (List ℕ)) → IsSomeAnd content (IsStarted log.file.images end bodies) → IsSomeAnd content (λ file. IsLogOf file bodies)
    told end None none = absurd none
    told end (Some file) is = rest_log file bodies is.at_rest

    go : (end : Option ℕ) → IsSomeAnd end (λ e. IsSomeAnd log.file.content (IsStarted log.file.images e bodies)) → IsSomeAnd log.file.content (λ file. IsLogOf file bodies)
    go None none = absurd none
    go (Some end) is = told end log.file.content is

pub is_started : (log : LogView) (bodies : List (List ℕ)) → HasBodies log bodies → false ≡ is_none log.end
is_started log bodies has = sym (ap is_none (ends_behind log bodies has))

-- no place is in doubt where no record is
pub no_doubt : (doubt : Option ℕ) (P : ℕ → Type 0) → is_some doubt ≡ false → IfSome doubt P
no_doubt None P h = tt
no_doubt (Some place) P h = cc

not_both : true ≡ false → ⊥
not_both h = cc

module _ {E : Type 0} (seen : E → FileView) (vid : ℕ) (shape : Shape) (item : ManagerRecord) (before after : LogOver E) (old new : Manager) (doubt : Option ℕ) (part : Manager) where
  abbrev was : BookOver E
  was = record { vid = vid; shape = shape; log = before; part = old; doubt = doubt }

  module _ (k : Keeps seen was part false None) where
    pub wrote : (place : ℕ) → AppendsItem vid shape.mode item k.bodies (shown seen after) (Ok place) → IsLegal (shape_of shape) old item → new ≡ written item old
        → Keeps seen (record { vid = vid; shape = shape; log = after; part = new; doubt = doubt }) (written item part) false None
    wrote place appends legal same =
        let has = appends.3 in record {
          items = k.items ++ item ∷ [];
          legal = log_more (shape_of shape) k.items part item k.legal (subst (λ m. IsLegal (shape_of shape) m item) k.same legal);
          same = same ∙ ap (written item) k.same;
          bodies = k.bodies ++ appends.1 ∷ [];
          spelled = spelled_more vid shape.mode k.items k.bodies item appends.1 k.spelled appends.2;
          shut = is_started (shown seen after) (k.bodies ++ appends.1 ∷ []) has;
          open_ = λ _. record { has = has; certain = refl };
          says = log_says (shown seen after) (k.bodies ++ appends.1 ∷ []) has;
          known = k.known;
          place = no_doubt doubt (λ at. at ≡ end_place (k.bodies ++ appends.1 ∷ [])) k.known;
          doubtful = tt;
        }

    pub in_doubt : AppendsItem vid shape.mode item k.bodies (shown seen after) (Err faults.Fault) → IsLegal (shape_of shape) old item → after.end ≡ None
        → Keeps seen (record { vid = vid; shape = shape; log = after; part = old; doubt = before.end }) part true (Some item)
    in_doubt appends legal shut =
        let ends : before.end ≡ Some (end_place k.bodies) = ends_behind (shown seen before) k.bodies (k.open_ refl).has in record {
          items = k.items;
          legal = k.legal;
          same = k.same;
          bodies = k.bodies;
          spelled = k.spelled;
          shut = sym (ap is_none shut);
          open_ = λ h. absurd (not_both h);
          says = appends;
          known = ap is_some ends;
          place = subst (λ o. IfSome o (λ at. at ≡ end_place k.bodies)) (sym ends) refl;
          doubtful = subst (λ m. IsLegal (shape_of shape) m item) k.same legal;
        }

    pub unchanged : HasBodies (shown seen after) k.bodies → Keeps seen (record { vid = vid; shape = shape; log = after; part = old; doubt = doubt }) part false None
    unchanged has = record {
      items = k.items;
      legal = k.legal;
      same = k.same;
      bodies = k.bodies;
      spelled = k.spelled;
      shut = is_started (shown seen after) k.bodies has;
      open_ = λ _. record { has = has; certain = refl };
      says = log_says (shown seen after) k.bodies has;
      known = k.known;
      place = k.place;
      doubtful = tt;
    }

    -- a refused append leaves the record in doubt, or nothing
    pub not_wrote : (fault : EntryFault) → AppendsItem vid shape.mode item k.bodies (shown seen after) (Err fault) → AppendEnds (shown seen before) (shown seen after) (Err fault) → IsLegal (shape_of shape) old item
        → Wrote seen item part (record { vid = vid; shape = shape; log = after; part = old; doubt = doubt_after fault before.end doubt }) (Err fault)
    not_wrote faults.Fault appends ends legal = in_doubt appends legal ends
    not_wrote faults.Memory appends ends legal = unchanged appends
    not_wrote _ appends ends legal = absurd ends

  pub refused_ends : (fault : EntryFault) → AppendEnds (shown seen before) (shown seen after) (Err fault)
      → WriteEnds seen item was (record { vid = vid; shape = shape; log = after; part = old; doubt = doubt_after fault before.end doubt }) (Err fault)
  refused_ends faults.Fault ends = (refl, ends)
  refused_ends faults.Memory ends = (refl, ends)
  refused_ends _ ends = absurd ends

-- ---- a whole write

module _ {E : Type 0} (seen : E → FileView) (vid : ℕ) (shape : Shape) (item : ManagerRecord) (before after : LogOver E) (old new : Manager) (doubt then_ : Option ℕ) where
  abbrev book : Bool → LogOver E → Manager → Option ℕ → BookOver E
  book is_shut log part in_doubt = record { vid = vid; shape = shape; log = record { file = log.file; end = end_unless is_shut log.end }; part = part; doubt = in_doubt }

  abbrev Told : Result ℕ EntryFault → Type 0
  Told result = (bodies : List (List ℕ)) → HasBodies (shown seen before) bodies → AppendsItem vid shape.mode item bodies (shown seen after) result

  some_end : (end : Option ℕ) (place : ℕ) → IsSomeAnd end (λ e. place < e) → IsSome end
  some_end None place none = absurd none
  some_end (Some e) place h = refl

  pub writes_ok : (is_shut : Bool) (place : ℕ) → HasRoom (end_unless is_shut before.end) → IsLegal (shape_of shape) old item → new ≡ written item old
      → CountsFault {T = ℕ} (seen before.file).faults (seen after.file).faults (Ok place) → AppendEnds (shown seen before) (shown seen after) (Ok place) → Told (Ok place)
      → WritesRecord seen item (book is_shut before old doubt) (book is_shut after new doubt) (Ok tt)
  writes_ok true place room legal same counts ends told = absurd room
  writes_ok false place room legal same counts ends told = record {
    vid = refl;
    shape = refl;
    counts = counts;
    ends = (same, some_end after.end place ends.1);
    told = λ part k. wrote seen vid shape item before after old new doubt part k place (told k.bodies (k.open_ refl).has) legal same;
  }

  counts_as : (fault : EntryFault) (a b : ℕ) → CountsFault {T = ℕ} a b (Err fault) → CountsFault {T = Unit {0}} a b (Err fault)
  counts_as faults.Fault a b h = h
  counts_as faults.Memory a b h = h
  counts_as faults.Shut a b h = h
  counts_as (faults.Spoiled place) a b h = h

  pub writes_err : (is_shut : Bool) (fault : EntryFault) → HasRoom (end_unless is_shut before.end) → IsLegal (shape_of shape) old item → new ≡ old → then_ ≡ doubt_after fault (end_unless is_shut before.end) doubt
      → CountsFault {T = ℕ} (seen before.file).faults (seen after.file).faults (Err fault) → AppendEnds (shown seen before) (shown seen after) (Err fault) → Told (Err fault)
      → WritesRecord seen item (book is_shut before old doubt) (book is_shut after new then_) (Err fault)
  writes_err true why room legal same at counts ends told = absurd room
  writes_err false why room legal same at counts ends told =
      subst (λ (p : Manager). WritesRecord seen item (book false before old doubt) (book false after p then_) (Err why)) (sym same)
      (subst (λ (d : Option ℕ). WritesRecord seen item (book false before old doubt) (book false after old d) (Err why)) (sym at)
      (record {
        vid = refl;
        shape = refl;
        counts = counts_as why (seen before.file).faults (seen after.file).faults counts;
        ends = refused_ends seen vid shape item before after old new doubt old why ends;
        told = λ part k. not_wrote seen vid shape item before after old new doubt part k why (told k.bodies (k.open_ refl).has) ends legal;
      }))
