-- How long a journal's diff is.
use Rattle.std.proofs.Common.{◌≡◌, ℕ, ◌≤◌, true, List, ◌++◌, length, take, drop, Ok, Result, sym, ap, ◌∙◌, arith}
use Rattle.std.specs.Cmp.Lexicographic.{pointwise}
use Rattle.std.proofs.lemmas.List.{length-drop}
use Rattle.std.proofs.lemmas.Bool.{leb-true}
use Rattle.state.specs.declared.fault.DiffRefusal.{DiffRefusal}
use Rattle.state.specs.Kind.{sized, diffed, written}
use Rattle.state.specs.Calls.{sized_yes, diffed_ok, written_ok}
use Rattle.journal.specs.declared.entry.Entry.{Entry}
use Rattle.journal.specs.contracts.entry.EntryPartialEq.TheImpl.{eq-value}
use Rattle.journal.proofs.Same.{front_same}
use Rattle.journal.specs.Entries.{entries_bytes}
use Rattle.journal.specs.Journals.{Contents, begins, journal_kind}
use Rattle.journal.specs.Bytes.{length_few}

-- what the entries `more`, behind those of the base, come to
module _ (b t : Contents) (old all more : List Entry) (o : old ≡ b.0) (a : all ≡ t.0) (begun : pointwise eq-value.it (take (length old) all) old ≡ true) (is : more ≡ drop (length old) all) where
  more_few : length more ≤ 64
  more_few = omega (arith, ap length is, length-drop (length old) all, ap length a, leb-true (length t.0) 64 t.1)

  follow : journal_kind.follows b t ≡ true
  follow = ap (λ x. begins x t.0) (sym o) ∙ ap (begins old) (sym a) ∙ sym (front_same old all) ∙ begun

  diff_is : entries_bytes more ≡ journal_kind.diff b t
  diff_is = ap entries_bytes (is ∙ ap (λ x. drop (length x) all) o ∙ ap (drop (length b.0)) a)

  short : length (journal_kind.diff b t) ≤ 576
  short = omega (arith, ap length diff_is, length_few more, more_few)

  module _ (n : ℕ) (n-is : n ≡ length (entries_bytes more)) where
    long : length (journal_kind.diff b t) ≡ n
    long = sym (n-is ∙ ap length diff_is)

    pub size_is : n ≡ sized journal_kind b t
    size_is = omega (arith, sized_yes journal_kind b t follow, long, short)

    module _ (out : List ℕ) where
      pub ok_answer : n ≤ length out → Ok n ≡ diffed journal_kind b t out
      ok_answer h =
          let ok : ℕ → Result ℕ DiffRefusal = λ m. Ok m in
          sym (diffed_ok journal_kind b t out follow (omega (arith, long, short)) ∙ ap ok long)

      pub ok_buffer : n ≤ length out → entries_bytes more ++ drop (length (entries_bytes more)) out ≡ written journal_kind b t out
      ok_buffer h =
          ap (λ d. d ++ drop (length d) out) diff_is ∙ sym (written_ok journal_kind b t out follow (omega (arith, long, short)))
