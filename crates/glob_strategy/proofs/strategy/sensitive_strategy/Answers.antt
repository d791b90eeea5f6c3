use Rattle.std.proofs.Common.{Some, ◌∷◌, [], ◌++◌, ap, sym, ◌∙◌}
use Rattle.glob_syntax.specs.Views.{flats, tokens_of}
use Rattle.glob_syntax.specs.TokenMatches.{slash}
use Rattle.glob_path.specs.Key.{Literal, BasenameLiteral, Extension, ComponentSuffix, Suffix, Prefix}
use Rattle.glob_strategy.specs.Strategies.{Key, ending_strategy}
use Rattle.glob_strategy.proofs.lemmas.Endings.{ending_same}
use Rattle.glob_strategy.proofs.lemmas.FlatTests.{whole_path_same, last_component_same, last_components_same, any_extension_same, end_same, beginning_same, below_folder_same, whole_path_text, last_component_text, last_components_text, any_extension_text, end_text, beginning_text, below_folder_text}
use Rattle.glob_strategy.proofs.lemmas.Strategies.{row_fits, row_fails}
use Rattle.glob_strategy.proofs.strategy.sensitive_strategy.Goals as goal

pub returns-then-is_whole_path : goal.returns-then-is_whole_path
returns-then-is_whole_path c =
    let fs = flats c.args.tokens.now in
    row_fits _ _ (whole_path_same fs c.requires) c.is_whole_path.ensures c.if-is_whole_path.true
    (ap (λ text. Key (Literal text)) (c.in_ok-literal_text.ensures ∙ whole_path_text fs (sym c.is_whole_path.ensures ∙ c.if-is_whole_path.true)))

pub returns-then-is_last_component : goal.returns-then-is_last_component
returns-then-is_last_component c =
    let fs = flats c.args.tokens.now in
    row_fails _ _ (whole_path_same fs c.requires) c.is_whole_path.ensures c.if-is_whole_path.false
    (row_fits _ _ (last_component_same fs c.requires) c.is_last_component.ensures c.if-is_last_component.true
    (ap (λ text. Key (BasenameLiteral text)) (c.in_ok-literal_text-2.ensures ∙ last_component_text fs (sym c.is_last_component.ensures ∙ c.if-is_last_component.true))))

pub returns-then-is_last_components : goal.returns-then-is_last_components
returns-then-is_last_components c =
    let fs = flats c.args.tokens.now in
    row_fails _ _ (whole_path_same fs c.requires) c.is_whole_path.ensures c.if-is_whole_path.false
    (row_fails _ _ (last_component_same fs c.requires) c.is_last_component.ensures c.if-is_last_component.false
    (row_fits _ _ (last_components_same fs c.requires) c.is_last_components.ensures c.if-is_last_components.true
    (ap (λ text. Key (ComponentSuffix text)) (c.in_ok-literal_text-3.ensures ∙ last_components_text fs (sym c.is_last_components.ensures ∙ c.if-is_last_components.true)))))

pub returns-then-is_any_extension : goal.returns-then-is_any_extension
returns-then-is_any_extension c =
    let fs = flats c.args.tokens.now in
    row_fails _ _ (whole_path_same fs c.requires) c.is_whole_path.ensures c.if-is_whole_path.false
    (row_fails _ _ (last_component_same fs c.requires) c.is_last_component.ensures c.if-is_last_component.false
    (row_fails _ _ (last_components_same fs c.requires) c.is_last_components.ensures c.if-is_last_components.false
    (row_fits _ _ (any_extension_same c.args.options fs c.requires) c.is_any_extension.ensures c.if-is_any_extension.true
    (ap (λ text. Key (Extension text)) (c.in_ok-literal_text-4.ensures ∙ any_extension_text c.args.options fs (sym c.is_any_extension.ensures ∙ c.if-is_any_extension.true))))))

pub returns-then-is_end : goal.returns-then-is_end
returns-then-is_end c =
    let fs = flats c.args.tokens.now in
    row_fails _ _ (whole_path_same fs c.requires) c.is_whole_path.ensures c.if-is_whole_path.false
    (row_fails _ _ (last_component_same fs c.requires) c.is_last_component.ensures c.if-is_last_component.false
    (row_fails _ _ (last_components_same fs c.requires) c.is_last_components.ensures c.if-is_last_components.false
    (row_fails _ _ (any_extension_same c.args.options fs c.requires) c.is_any_extension.ensures c.if-is_any_extension.false
    (row_fits _ _ (end_same c.args.options fs c.requires) c.is_end.ensures c.if-is_end.true
    (ap (λ text. Key (Suffix text)) (c.in_ok-literal_text-5.ensures ∙ end_text c.args.options fs (sym c.is_end.ensures ∙ c.if-is_end.true)))))))

pub returns-then-is_beginning : goal.returns-then-is_beginning
returns-then-is_beginning c =
    let fs = flats c.args.tokens.now in
    row_fails _ _ (whole_path_same fs c.requires) c.is_whole_path.ensures c.if-is_whole_path.false
    (row_fails _ _ (last_component_same fs c.requires) c.is_last_component.ensures c.if-is_last_component.false
    (row_fails _ _ (last_components_same fs c.requires) c.is_last_components.ensures c.if-is_last_components.false
    (row_fails _ _ (any_extension_same c.args.options fs c.requires) c.is_any_extension.ensures c.if-is_any_extension.false
    (row_fails _ _ (end_same c.args.options fs c.requires) c.is_end.ensures c.if-is_end.false
    (row_fits _ _ (beginning_same c.args.options fs c.requires) c.is_beginning.ensures c.if-is_beginning.true
    (ap (λ text. Key (Prefix text)) (c.in_ok-literal_text-6.ensures ∙ beginning_text c.args.options fs (sym c.is_beginning.ensures ∙ c.if-is_beginning.true))))))))

pub returns-then-is_below_folder : goal.returns-then-is_below_folder
returns-then-is_below_folder c =
    let fs = flats c.args.tokens.now in
    row_fails _ _ (whole_path_same fs c.requires) c.is_whole_path.ensures c.if-is_whole_path.false
    (row_fails _ _ (last_component_same fs c.requires) c.is_last_component.ensures c.if-is_last_component.false
    (row_fails _ _ (last_components_same fs c.requires) c.is_last_components.ensures c.if-is_last_components.false
    (row_fails _ _ (any_extension_same c.args.options fs c.requires) c.is_any_extension.ensures c.if-is_any_extension.false
    (row_fails _ _ (end_same c.args.options fs c.requires) c.is_end.ensures c.if-is_end.false
    (row_fails _ _ (beginning_same c.args.options fs c.requires) c.is_beginning.ensures c.if-is_beginning.false
    (row_fits _ _ (below_folder_same fs c.requires) c.is_below_folder.ensures c.if-is_below_folder.true
    (ap (λ text. Key (Prefix text)) (c.in_ok-literal_text_and_slash.ensures ∙ ap (λ text. text ++ slash ∷ []) (below_folder_text fs (sym c.is_below_folder.ensures ∙ c.if-is_below_folder.true))))))))))

pub returns-in-Some : goal.returns-in-Some
returns-in-Some c =
    let fs = flats c.args.tokens.now in
    row_fails _ _ (whole_path_same fs c.requires) c.is_whole_path.ensures c.if-is_whole_path.false
    (row_fails _ _ (last_component_same fs c.requires) c.is_last_component.ensures c.if-is_last_component.false
    (row_fails _ _ (last_components_same fs c.requires) c.is_last_components.ensures c.if-is_last_components.false
    (row_fails _ _ (any_extension_same c.args.options fs c.requires) c.is_any_extension.ensures c.if-is_any_extension.false
    (row_fails _ _ (end_same c.args.options fs c.requires) c.is_end.ensures c.if-is_end.false
    (row_fails _ _ (beginning_same c.args.options fs c.requires) c.is_beginning.ensures c.if-is_beginning.false
    (row_fails _ _ (below_folder_same fs c.requires) c.is_below_folder.ensures c.if-is_below_folder.false
    (ap (ending_strategy c.args.options (tokens_of c.args.tokens.now)) (ap Some c.in_ok-literal_text-7.ensures ∙ c.in-Some.ensures.text ∙ ending_same fs c.requires))))))))

pub returns : goal.returns
returns c =
    let fs = flats c.args.tokens.now in
    row_fails _ _ (whole_path_same fs c.requires) c.is_whole_path.ensures c.if-is_whole_path.false
    (row_fails _ _ (last_component_same fs c.requires) c.is_last_component.ensures c.if-is_last_component.false
    (row_fails _ _ (last_components_same fs c.requires) c.is_last_components.ensures c.if-is_last_components.false
    (row_fails _ _ (any_extension_same c.args.options fs c.requires) c.is_any_extension.ensures c.if-is_any_extension.false
    (row_fails _ _ (end_same c.args.options fs c.requires) c.is_end.ensures c.if-is_end.false
    (row_fails _ _ (beginning_same c.args.options fs c.requires) c.is_beginning.ensures c.if-is_beginning.false
    (row_fails _ _ (below_folder_same fs c.requires) c.is_below_folder.ensures c.if-is_below_folder.false
    (c.automaton_strategy.ensures ∙ ap (ending_strategy c.args.options (tokens_of c.args.tokens.now)) (c.in_default.ensures.text ∙ ending_same fs c.requires))))))))
