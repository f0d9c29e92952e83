-- What a cursor knows, for those that start a log record by record.
use Rattle.std.proofs.Common.{◌≡◌, ◌≤◌, ℕ, suc, zero, ◌+◌, List, [], ◌∷◌, ◌++◌, length, refl, sym, ◌∙◌, ap, arith, inl, inr, Option, None, Some, IfSome}
use Rattle.disk_base.specs.Disk.{FileView, LeavesExactly, OnlyReads}
use Rattle.gate_log.specs.LogFile.{Contents, holds, bad_head, bad_chain, contents_of, chain_from, next_place, body_at, preceded_by, end_place, bodies_of, Walks}
use Rattle.gate_log.specs.GateLog.{IsStarted, IsSettled, HasCome, IsUnder}
use Rattle.gate_log.specs.declared.start.Cursor.{Cursor}
use Rattle.gate_log.proofs.Chain.{at_record}
use Rattle.gate_log.proofs.Fetch.{if_some, at_some}
use Rattle.gate_log.proofs.Rest.{le_or_lt, marked_file, from_holds}
use Rattle.gate_log.proofs.Walk.{walk_end}

-- bodies with these in front
record IsFront (read all : List (List ℕ)) : Type 0 where
  rest : List (List ℕ)
  is : all ≡ read ++ rest

walk_front : (records : ℕ) (bytes : List ℕ) (place : ℕ) (read : List (List ℕ)) (end : ℕ) (all : List (List ℕ)) → Walks bytes place read end → length bytes ≤ records + place → chain_from records bytes place ≡ holds all → IsFront read all
walk_front records bytes place [] end all walks long says = record { rest = all; is = refl }
walk_front zero bytes place (body ∷ read) end all walks long says = let i : next_place bytes place ≤ length bytes = walks.0.inside in absurd (omega (arith, i, long))
walk_front (suc records) bytes place (body ∷ read) end all walks long says =
    go (λ bodies is. walk_front records bytes (next_place bytes place) read end bodies walks.2 (omega (arith, long)) is)
    (chain_from records bytes (next_place bytes place)) refl (sym (at_record records bytes place walks.0) ∙ says)
  where
    go : ((bodies : List (List ℕ)) → chain_from records bytes (next_place bytes place) ≡ holds bodies → IsFront read bodies)
        → (rest : Contents) → chain_from records bytes (next_place bytes place) ≡ rest → preceded_by (body_at bytes place) rest ≡ holds all → IsFront (body ∷ read) all
    go behind (holds bodies) is e =
        let front = behind bodies is in
        record { rest = front.rest; is = sym (from_holds (body_at bytes place ∷ bodies) all e) ∙ ap (λ b. b ∷ bodies) (sym walks.1) ∙ ap (λ bs. body ∷ bs) front.is }
    go behind bad_head is e = absurd (apart e)
      where
        apart : bad_head ≡ holds all → ⊥
        apart h = cc
    go behind (bad_chain at) is e = absurd (apart e)
      where
        apart : bad_chain at ≡ holds all → ⊥
        apart h = cc

module _ (file : List ℕ) (read : List (List ℕ)) (cursor : Cursor) (come : HasCome file read cursor) where
  -- its place is where the bodies that were read end
  pub come_place : cursor.place ≡ end_place read
  come_place = walk_end file 8 read cursor.place come.walks

  -- and these are the first of those that the file stands for
  pub come_front : (all : List (List ℕ)) → contents_of file ≡ holds all → (rest : List (List ℕ)) × (all ≡ read ++ rest)
  come_front all says = elim (le_or_lt (length file) 9) [
    | inl short ↦ go read come.walks short
    | inr far ↦
        let front = walk_front (length file) file 8 read cursor.place all come.walks (omega arith) (sym (marked_file file far (come.head far)) ∙ says) in
        (front.rest, front.is)
  ]
    where
      go : (bodies : List (List ℕ)) → Walks file 8 bodies cursor.place → length file ≤ 9 → (rest : List (List ℕ)) × (all ≡ bodies ++ rest)
      go [] walks short = (all, refl)
      go (body ∷ bodies) walks short =
          let i = walks.0.inside in
          let n = walks.0.not_empty in
          absurd (omega (arith, i, n, short))

-- reading leaves a start where it is
pub under_reads : (cursor : Cursor) (old new : FileView) → OnlyReads old new → IfSome old.content (λ file. LeavesExactly file old.images) → (file : List ℕ) → new.content ≡ Some file → (read : List (List ℕ)) → HasCome file read cursor → IsUnder cursor new.images file
under_reads cursor old new reads exactly file now read come = record {
  read = read;
  come = come;
  exactly = λ image left. at_some old.content file (λ f. LeavesExactly f old.images) (sym reads.same ∙ now) exactly image (reads.within image left);
}

-- and a log that is started at rest
pub settled_reads : (end : Option ℕ) (old new : FileView) → OnlyReads old new → IsSettled old end → IsSettled new end
settled_reads None old new reads settled = tt
settled_reads (Some end) old new reads settled = if_some new.content _ (λ file now.
    let s = at_some old.content file (λ f. IsStarted old.images end (bodies_of f) f) (sym reads.same ∙ now) settled in
    record { at_rest = s.at_rest; end_is = s.end_is; exactly = λ image left. s.exactly image (reads.within image left) })
