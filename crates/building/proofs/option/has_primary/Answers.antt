-- `option::has_primary` meets its contract: `any` finds what the definition does. Assumes nothing.
use Rattle.std.proofs.Common.{ℕ, ltb, refl, ◌∙◌, rules, tests, ◌||◌}
use Rattle.std.proofs.lemmas.Iterator.{YieldsList-from_slice}
use Rattle.std.proofs.lemmas.Iterator.Search.{any_from_yields_List}
use Rattle.std.proofs.lemmas.List.Recursion.{same_from_clauses}
use Rattle.std.specs.List.{list_any}
use Rattle.building.specs.Build.{primary_in}
use Rattle.building.proofs.option.has_primary.Goals as goal

pub returns : goal.returns
returns c =
    any_from_yields_List (λ (i : ℕ). ltb i c.args.np) _ _ _ c.any.ensures.ran (YieldsList-from_slice c.args.items.now cc) (λ x b q k. search (rules, tests))
    ∙ same_from_clauses (list_any (λ (i : ℕ). ltb i c.args.np)) (primary_in c.args.np) (λ i b. ltb i c.args.np || b) refl (λ _ _. refl) (λ _ _. refl) c.args.items.now
