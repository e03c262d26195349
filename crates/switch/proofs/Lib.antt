mod Carries
mod Presence
mod Serves
mod Loads
mod Steps
mod Feeds
