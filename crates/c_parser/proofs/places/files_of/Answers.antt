use Rattle.std.proofs.Common.{◌≡◌, ℕ, Some, None, sym, ap, subst, ◌∙◌, List, arith}
use Rattle.std.specs.Prelude.{All, IsUtf8, slice_get}
use Rattle.std.specs.Option.{option_copied}
use Rattle.std.proofs.lemmas.List.Elements.{All-push}
use Rattle.c_parser.proofs.Placing.{files_more, file_there}
use Rattle.c_parser.proofs.places.files_of.Goals as goal
use Rattle.c_parser.proofs.places.files_of.Goals.{in-Some+in_ok-lexeme_of+in_ok-push, in_default}

pub loop-k-preserved : goal.loop-k-preserved
loop-k-preserved c = elim c.match-file_name.branch [
  | in-Some+in_ok-lexeme_of+in_ok-push w ↦
      let at : slice_get c.args.tokens.now.files c.loop-k.k ≡ Some w.in-Some.name.now = sym c.file_name.ensures ∙ ap option_copied w.in-Some.is in
      let P : List ℕ → Type 0 = λ bytes. IsUtf8 bytes in
      let pushed = w.files-is ∙ w.in_ok-push.ensures.ok in
      record {
        same = files_more _ _ _ _ _ _ at c.loop-k.invariant.same w.in_ok-lexeme_of.ensures.same pushed;
        text = subst (λ fs. All P fs) (sym pushed) (All-push P c.loop-k.files _ c.loop-k.invariant.text w.in_ok-lexeme_of.ensures.text);
      }
  | in_default w ↦
      let past : slice_get c.args.tokens.now.files c.loop-k.k ≡ None = sym c.file_name.ensures ∙ ap option_copied w.in_default.is in
      file_there _ c.args.tokens.now.files c.loop-k.k (omega (arith, c.files-k-end.ensures)) past
]
