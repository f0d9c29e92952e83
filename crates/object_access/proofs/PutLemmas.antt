-- Lemmas on the puts of an object's blobs.
use Rattle.std.proofs.Common.{◌≡◌, ℕ, ◌+◌, ◌<◌, ◌≤◌, inl, inr, List, [], ◌∷◌, ◌++◌, length, drop, get_or, Result, Ok, Err, refl, sym, ◌∙◌, ap, subst, append_assoc, append-nil, add-zero, arith}
use Rattle.std.proofs.lemmas.List.{drop_more, drop_all}
use Rattle.code_mode.specs.declared.mode.Mode.{Mode}
use Rattle.code_mode.specs.declared.payload.Payload.{Payload}
use Rattle.code_mode.specs.declared.payload.Payload.TheVariants.{Plain}
use Rattle.volume_world.specs.Way.{Origin, WayView}
use Rattle.volume_world.specs.Course.{Part, Goes}
use Rattle.volume_world.specs.Progress.{AllFit}
use Rattle.volume_world.proofs.Stretches.{goes_on}
use Rattle.volume_world.proofs.Comings.{fits_on}
use Rattle.blob_access.specs.declared.putting.Acked.{Acked}
use Rattle.blob_access.specs.declared.fault.PutFault.{PutFault}
use Rattle.blob_access.specs.declared.fault.PutFault.TheVariants as faults
use Rattle.blob_access.specs.PutCall.{PutsBy, Puts}
use Rattle.blob_access.proofs.PutLemmas.{goes_nowhere, puts_nothing}
use Rattle.object_access.specs.Pieces.{pieces_of}
use Rattle.object_access.specs.ObjectPut.{ObjectPutsBy, ObjectPuts}
use Rattle.object_access.specs.ObjectParts.{PutsPiece}

-- ---- one blob

pub piece_out_of_memory : (a : WayView) (number : ℕ) (piece : List ℕ) (result : Result (Unit {0}) PutFault) → result ≡ Err faults.Memory → PutsPiece a a number piece result
piece_out_of_memory a number piece result given = subst (λ r. PutsPiece a a number piece r) (sym given) (puts_nothing a number (Plain piece))

pub piece_refused : (a b : WayView) (number : ℕ) (piece : List ℕ) (payload : Payload) (result : Result (Unit {0}) PutFault) (fault : PutFault) → payload ≡ Plain piece → result ≡ Err fault
    → Puts a b number payload (Err fault) → PutsPiece a b number piece result
piece_refused a b number piece payload result fault is given h =
    subst (λ r. PutsPiece a b number piece r) (sym given) (subst (λ (p : Payload). Puts a b number p (Err fault)) is h)

-- ---- the blobs that are left

-- they begin with the one at this place
pub left_is : {A : Type 0} (items : List A) (place : ℕ) (item other : A) → place < length items → item ≡ get_or items place other → drop place items ≡ item ∷ drop (place + 1) items
left_is items place item other below is = drop_more items place other below ∙ ap (λ x. x ∷ drop (place + 1) items) (sym is)

pub number_on : (first place : ℕ) → first + (place + 1) ≡ (first + place) + 1
number_on first place = omega arith

-- the blobs before this place are put, and whatever is asked behind that for the others, all of it puts the object
pub record HasPut (a b : WayView) (first : ℕ) (pieces : List (List ℕ)) (place : ℕ) : Type 0 where
  pub parts : List Part
  pub goes : Goes a b parts
  pub fits : AllFit a.origin parts
  pub call : (rest : List Part) (result : Result (Unit {0}) PutFault) → ObjectPutsBy a.origin.mode (first + place) (drop place pieces) rest result
      → ObjectPutsBy a.origin.mode first pieces (parts ++ rest) result

pub put_none : (a : WayView) (first : ℕ) (pieces : List (List ℕ)) → HasPut a a first pieces 0
put_none a first pieces = record {
  parts = [];
  goes = goes_nowhere a;
  fits = tt;
  call = λ rest result h. subst (λ number. ObjectPutsBy a.origin.mode number pieces rest result) (add-zero first) h;
}

-- the put of a blob as one of the mode that the volume had when the object's put began
put_by_mode : (a b : WayView) (parts own : List Part) (number : ℕ) (piece : List ℕ) (result : Result Acked PutFault) → Goes a b parts → PutsBy b.origin.mode number (Plain piece) own result
    → PutsBy a.origin.mode number (Plain piece) own result
put_by_mode a b parts own number piece result goes h = subst (λ (o : Origin). PutsBy o.mode number (Plain piece) own result) goes.origin h

-- behind an acknowledged blob come the others
put_further : (mode : Mode) (first place : ℕ) (pieces : List (List ℕ)) (piece : List ℕ) (own rest : List Part) (acked : Acked) (result : Result (Unit {0}) PutFault) → place < length pieces
    → piece ≡ get_or pieces place [] → PutsBy mode (first + place) (Plain piece) own (Ok acked) → ObjectPutsBy mode (first + (place + 1)) (drop (place + 1) pieces) rest result
    → ObjectPutsBy mode (first + place) (drop place pieces) (own ++ rest) result
put_further mode first place pieces piece own rest acked result below is puts others =
    subst (λ left. ObjectPutsBy mode (first + place) left (own ++ rest) result) (sym (left_is pieces place piece [] below is))
    (inl (rest, record { own = own; split = refl; acked = acked; puts = puts }, subst (λ number. ObjectPutsBy mode number (drop (place + 1) pieces) rest result) (number_on first place) others))

put_no_further : (mode : Mode) (first place : ℕ) (pieces : List (List ℕ)) (piece : List ℕ) (own : List Part) (fault : PutFault) → place < length pieces → piece ≡ get_or pieces place []
    → PutsBy mode (first + place) (Plain piece) own (Err fault) → ObjectPutsBy mode (first + place) (drop place pieces) own (Err fault)
put_no_further mode first place pieces piece own fault below is puts =
    subst (λ left. ObjectPutsBy mode (first + place) left own (Err fault)) (sym (left_is pieces place piece [] below is)) (inr (record { fault = fault; puts = puts; given = refl }))

-- ---- the loop

-- one blob more is put
pub put_more : (a b c : WayView) (first : ℕ) (pieces : List (List ℕ)) (place : ℕ) (piece : List ℕ) (acked : Acked) → place < length pieces → piece ≡ get_or pieces place [] → HasPut a b first pieces place
    → Puts b c (first + place) (Plain piece) (Ok acked) → HasPut a c first pieces (place + 1)
put_more a b c first pieces place piece acked below is h p = record {
  parts = h.parts ++ p.parts;
  goes = goes_on a b c h.parts p.parts h.goes p.goes;
  fits = fits_on a.origin h.parts p.parts h.fits (subst (λ (o : Origin). AllFit o p.parts) h.goes.origin p.fits);
  call = λ rest result others.
      subst (λ parts. ObjectPutsBy a.origin.mode first pieces parts result) (sym (append_assoc h.parts p.parts rest))
      (h.call (p.parts ++ rest) result (put_further a.origin.mode first place pieces piece p.parts rest acked result below is (put_by_mode a b h.parts p.parts (first + place) piece (Ok acked) h.goes p.call) others));
}

-- the put of the blob at a place, by what it answers
pub put_next : (a b c : WayView) (first : ℕ) (pieces : List (List ℕ)) (place number : ℕ) (piece : List ℕ) (done : Unit {0}) → place < length pieces → piece ≡ get_or pieces place [] → number ≡ first + place
    → HasPut a b first pieces place → PutsPiece b c number piece (Ok done) → HasPut a c first pieces (place + 1)
put_next a b c first pieces place number piece done below is at h p =
    put_more a b c first pieces place piece p.0 below is h (subst (λ n. Puts b c n (Plain piece) (Ok p.0)) at p.1)

-- the history is full where the refused put found it so
abbrev refused_by : PutFault → Result Acked PutFault
refused_by fault = Err fault

-- a blob is refused behind those that are put
pub put_stops : (a b c : WayView) (first : ℕ) (bytes : List ℕ) (place number : ℕ) (piece : List ℕ) (fault : PutFault) (result : Result (Unit {0}) PutFault) → place < length (pieces_of bytes)
    → piece ≡ get_or (pieces_of bytes) place [] → number ≡ first + place → result ≡ Err fault → HasPut a b first (pieces_of bytes) place → PutsPiece b c number piece (Err fault) → ObjectPuts a c first bytes result
put_stops a b c first bytes place number piece fault result below is at given h q =
    let p = subst (λ n. Puts b c n (Plain piece) (Err fault)) at q in
    subst (λ r. ObjectPuts a c first bytes r) (sym given) (record {
      parts = h.parts ++ p.parts;
      goes = goes_on a b c h.parts p.parts h.goes p.goes;
      fits = fits_on a.origin h.parts p.parts h.fits (subst (λ (o : Origin). AllFit o p.parts) h.goes.origin p.fits);
      call = h.call p.parts (Err fault) (put_no_further a.origin.mode first place (pieces_of bytes) piece p.parts fault below is (put_by_mode a b h.parts p.parts (first + place) piece (Err fault) h.goes p.call));
      full = λ e. let same : fault ≡ faults.HistoryFull = cc e in p.full (ap refused_by same);
    })

-- all blobs are put
pub put_all : (a b : WayView) (first : ℕ) (bytes : List ℕ) (place : ℕ) → length (pieces_of bytes) ≤ place → HasPut a b first (pieces_of bytes) place → ObjectPuts a b first bytes (Ok tt)
put_all a b first bytes place over h = record {
  parts = h.parts;
  goes = h.goes;
  fits = h.fits;
  call = subst (λ parts. ObjectPutsBy a.origin.mode first (pieces_of bytes) parts (Ok tt)) (append-nil h.parts)
      (h.call [] (Ok tt) (subst (λ left. ObjectPutsBy a.origin.mode (first + place) left [] (Ok tt)) (sym (drop_all place (pieces_of bytes) over)) (refl, refl)));
  full = λ e. absurd (cc e);
}
