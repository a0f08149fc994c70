mod BookmarkOrder
mod DnodeLines
mod PoolLines
mod MergedNames
mod ObjectWalk
mod RangeLaws
mod PartialWalk
