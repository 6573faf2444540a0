-- The codes of refusals: their order, names and phases.
use Rattle.std.specs.Prelude.{ℕ, List, codes}
use Rattle.yv_text_statement.specs.declared.refusal.Code.{Code}
use Rattle.yv_text_statement.specs.declared.refusal.Code.TheVariants as code

-- The order among the refusals of one place, which the statement, its arguments, types and nodes
-- may give together: the text first, then a statement that is left out before one that is unknown,
-- and so on, in the order in which docs/REFUSALS.md tells the codes.
unfoldable pub number_of : Code → ℕ
number_of code.NotUtf8 = 0
number_of code.BadCharacter = 1
number_of code.BadToken = 2
number_of code.BadEscape = 3
number_of code.BadSyntax = 4
number_of code.TooDeep = 5
number_of code.TooLarge = 6
number_of code.Unsupported = 7
number_of code.UnknownStatement = 8
number_of code.Cardinality = 9
number_of code.BadArgument = 10
number_of code.DuplicateModule = 11
number_of code.MissingModule = 12
number_of code.Revision = 13
number_of code.ImportCycle = 14
number_of code.UnknownPrefix = 15
number_of code.Submodule = 16
number_of code.UnknownFeature = 17
number_of code.FeatureCycle = 18
number_of code.UnknownIdentity = 19
number_of code.IdentityCycle = 20
number_of code.DuplicateName = 21
number_of code.UnknownType = 22
number_of code.TypeCycle = 23
number_of code.UnknownGrouping = 24
number_of code.GroupingCycle = 25
number_of code.TooManyNodes = 26
number_of code.RefineTarget = 27
number_of code.BadRefine = 28
number_of code.AugmentTarget = 29
number_of code.BadAugment = 30
number_of code.TreeTooDeep = 31
number_of code.BadRestriction = 32
number_of code.BadPattern = 33
number_of code.BadNumbering = 34
number_of code.BadType = 35
number_of code.TooManyMembers = 36
number_of code.DuplicateNode = 37
number_of code.BadKey = 38
number_of code.BadUnique = 39
number_of code.BadConfig = 40
number_of code.BadDefault = 41
number_of code.BadMandatory = 42
number_of code.BadPath = 43
number_of code.PathCycle = 44
number_of code.BadOperation = 45

-- the name that a refusal's line ends with
abbrev pub name_of : Code → List ℕ
name_of code.NotUtf8 = codes "NotUtf8"
name_of code.BadCharacter = codes "BadCharacter"
name_of code.BadToken = codes "BadToken"
name_of code.BadEscape = codes "BadEscape"
name_of code.BadSyntax = codes "BadSyntax"
name_of code.TooDeep = codes "TooDeep"
name_of code.TooLarge = codes "TooLarge"
name_of code.Unsupported = codes "Unsupported"
name_of code.UnknownStatement = codes "UnknownStatement"
name_of code.Cardinality = codes "Cardinality"
name_of code.BadArgument = codes "BadArgument"
name_of code.DuplicateModule = codes "DuplicateModule"
name_of code.MissingModule = codes "MissingModule"
name_of code.Revision = codes "Revision"
name_of code.ImportCycle = codes "ImportCycle"
name_of code.UnknownPrefix = codes "UnknownPrefix"
name_of code.Submodule = codes "Submodule"
name_of code.UnknownFeature = codes "UnknownFeature"
name_of code.FeatureCycle = codes "FeatureCycle"
name_of code.UnknownIdentity = codes "UnknownIdentity"
name_of code.IdentityCycle = codes "IdentityCycle"
name_of code.DuplicateName = codes "DuplicateName"
name_of code.UnknownType = codes "UnknownType"
name_of code.TypeCycle = codes "TypeCycle"
name_of code.UnknownGrouping = codes "UnknownGrouping"
name_of code.GroupingCycle = codes "GroupingCycle"
name_of code.TooManyNodes = codes "TooManyNodes"
name_of code.RefineTarget = codes "RefineTarget"
name_of code.BadRefine = codes "BadRefine"
name_of code.AugmentTarget = codes "AugmentTarget"
name_of code.BadAugment = codes "BadAugment"
name_of code.TreeTooDeep = codes "TreeTooDeep"
name_of code.BadRestriction = codes "BadRestriction"
name_of code.BadPattern = codes "BadPattern"
name_of code.BadNumbering = codes "BadNumbering"
name_of code.BadType = codes "BadType"
name_of code.TooManyMembers = codes "TooManyMembers"
name_of code.DuplicateNode = codes "DuplicateNode"
name_of code.BadKey = codes "BadKey"
name_of code.BadUnique = codes "BadUnique"
name_of code.BadConfig = codes "BadConfig"
name_of code.BadDefault = codes "BadDefault"
name_of code.BadMandatory = codes "BadMandatory"
name_of code.BadPath = codes "BadPath"
name_of code.PathCycle = codes "PathCycle"
name_of code.BadOperation = codes "BadOperation"

-- the phase of compilation in which the code is asked: 1 the text, 2 each statement, 3 modules, 4
-- features, 5 identities, 6 scopes, 7 the limit, 8 the expansion, 9 types, 10 the tree
abbrev pub phase_of : Code → ℕ
phase_of code.NotUtf8 = 1
phase_of code.BadCharacter = 1
phase_of code.BadToken = 1
phase_of code.BadEscape = 1
phase_of code.BadSyntax = 1
phase_of code.TooDeep = 1
phase_of code.TooLarge = 1
phase_of code.Unsupported = 2
phase_of code.UnknownStatement = 2
phase_of code.Cardinality = 2
phase_of code.BadArgument = 2
phase_of code.DuplicateModule = 3
phase_of code.MissingModule = 3
phase_of code.Revision = 3
phase_of code.ImportCycle = 3
phase_of code.UnknownPrefix = 3
phase_of code.Submodule = 3
phase_of code.UnknownFeature = 4
phase_of code.FeatureCycle = 4
phase_of code.UnknownIdentity = 5
phase_of code.IdentityCycle = 5
phase_of code.DuplicateName = 6
phase_of code.UnknownType = 6
phase_of code.TypeCycle = 6
phase_of code.UnknownGrouping = 6
phase_of code.GroupingCycle = 6
phase_of code.TooManyNodes = 7
phase_of code.RefineTarget = 8
phase_of code.BadRefine = 8
phase_of code.AugmentTarget = 8
phase_of code.BadAugment = 8
phase_of code.TreeTooDeep = 8
phase_of code.BadRestriction = 9
phase_of code.BadPattern = 9
phase_of code.BadNumbering = 9
phase_of code.BadType = 9
phase_of code.TooManyMembers = 9
phase_of code.DuplicateNode = 10
phase_of code.BadKey = 10
phase_of code.BadUnique = 10
phase_of code.BadConfig = 10
phase_of code.BadDefault = 10
phase_of code.BadMandatory = 10
phase_of code.BadPath = 10
phase_of code.PathCycle = 10
phase_of code.BadOperation = 10
